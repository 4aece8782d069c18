use Rattle.std.proofs.Common.{◌≡◌, ℕ, Bool, List, take}
use Rattle.mql_names.specs.Maps.{meaning}
use Rattle.mql_names.specs.Things.{list_things}
use Rattle.mql_names.specs.Rules.{told_of}
use Rattle.mql_names.proofs.walk.+statements.Given as goal

abbrev pub invariant-parts_told-loop-s : goal.invariant-parts_told-loop-s
invariant-parts_told-loop-s l = (shared : Bool) (locals : List (List ℕ)) → l.told ≡ told_of (meaning l.names) (list_things shared locals (take l.s-index l.parts))
