use Rattle.std.specs.Prelude.{◌≡◌, replicate}
use Rattle.store_cells.proofs.beginnings.replicated.Given as goal

abbrev pub invariant-loop-i : goal.invariant-loop-i
invariant-loop-i l = l.list ≡ replicate l._i l.cell
