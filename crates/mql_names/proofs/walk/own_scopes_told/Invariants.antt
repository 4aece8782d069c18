use Rattle.std.proofs.Common.{◌≡◌, take}
use Rattle.std.specs.List.{flat_map}
use Rattle.mql_names.specs.Types.{Names}
use Rattle.mql_names.specs.Things.{own_scope}
use Rattle.mql_names.specs.Rules.{told_of}
use Rattle.mql_names.proofs.walk.own_scopes_told.Given as goal

abbrev pub invariant-loop-s : goal.invariant-loop-s
invariant-loop-s l = (names : Names) → l.told ≡ told_of names (flat_map own_scope (take l.s-index l.parts))
