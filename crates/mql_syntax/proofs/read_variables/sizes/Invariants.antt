use Rattle.std.specs.Prelude.{◌≡◌, ◌++◌, None, map, drop}
use Rattle.mql_views.specs.Seen.{seen, maybe_seen}
use Rattle.mql_syntax.specs.Variables.{sizes_from}
use Rattle.mql_syntax.proofs.read_variables.sizes.Given as goal

abbrev pub invariant-loop-part : goal.invariant-loop-part
invariant-loop-part l = sizes_from None (seen l.parts) ≡ map maybe_seen l.found ++ sizes_from (maybe_seen l.size) (seen (drop l.part-index l.parts))
