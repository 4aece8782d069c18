use Rattle.std.specs.Prelude.{◌≡◌, drop, length}
use Rattle.mql_meaning.specs.Cells.{each}
use Rattle.store_cells.specs.Puts.{ahead, put_each, put_unit}
use Rattle.store_cells.proofs.puts.+puts.Given as goal

abbrev pub invariant-each-loop-value : goal.invariant-each-loop-value
invariant-each-loop-value l = each (put_unit l.unit) l.fn.values ≡ ahead l.new (each (put_unit l.unit) l.rest)

abbrev pub decreases-each-loop-value : goal.decreases-each-loop-value
decreases-each-loop-value l = length l.rest

abbrev pub invariant-put_each-loop-cell : goal.invariant-put_each-loop-cell
invariant-put_each-loop-cell l = put_each l.items l.fn.values ≡ ahead l.new (put_each (drop l.cell-index l.items) l.rest)
