use Rattle.std.specs.Prelude.{◌≡◌, map, drop}
use Rattle.mql_views.specs.Seen.{maybe_seen}
use Rattle.mql_syntax.specs.Lists.{each}
use Rattle.mql_syntax.specs.Seen.{at_site}
use Rattle.mql_syntax.specs.Variables.{dimension}
use Rattle.mql_syntax.proofs.Each.{ahead}
use Rattle.mql_syntax.proofs.read_variables.dimensions.Given as goal

abbrev pub invariant-loop-size : goal.invariant-loop-size
invariant-loop-size l = each (at_site dimension l.site) (map maybe_seen l.sizes) ≡ ahead l.found (each (at_site dimension l.site) (map maybe_seen (drop l.size-index l.sizes)))
