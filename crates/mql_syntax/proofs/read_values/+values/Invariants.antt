use Rattle.std.specs.Prelude.{◌≡◌, ◌+◌, ◌*◌, drop}
use Rattle.mql_views.specs.Seen.{seen}
use Rattle.mql_syntax.specs.Lists.{each}
use Rattle.mql_syntax.specs.Values.{value}
use Rattle.mql_syntax.proofs.Each.{ahead}
use Rattle.mql_syntax.proofs.read_values.+values.Given as goal

abbrev pub invariant-values_in-loop-part : goal.invariant-values_in-loop-part
invariant-values_in-loop-part l = each (value l.tokens l.classes l.depth l.inside) (seen l.parts) ≡ ahead l.found (each (value l.tokens l.classes l.depth l.inside) (seen (drop l.part-index l.parts)))

abbrev pub decreases-value : goal.decreases-value
decreases-value l = 2 * l.depth

abbrev pub decreases-values_in : goal.decreases-values_in
decreases-values_in l = 2 * l.depth + 1
