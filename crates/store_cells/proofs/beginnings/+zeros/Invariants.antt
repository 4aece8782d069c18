use Rattle.std.specs.Prelude.{◌≡◌, ◌*◌, ◌+◌, map, take}
use Rattle.mql_meaning.specs.declared.types.VarType.{VarType}
use Rattle.mql_meaning.specs.Cells.{array, zero_base}
use Rattle.store_cells.proofs.beginnings.+zeros.Given as goal

abbrev pub decreases-zero_base : goal.decreases-zero_base
decreases-zero_base l = 3 * l.deep

abbrev pub decreases-zero_at : goal.decreases-zero_at
decreases-zero_at l = 3 * l.deep + 1

abbrev pub decreases-zero_fields : goal.decreases-zero_fields
decreases-zero_fields l = 3 * l.deep + 2

abbrev pub invariant-zero_fields-loop-t : goal.invariant-zero_fields-loop-t
invariant-zero_fields-loop-t l =
    l.cells ≡ map (λ (t : VarType). array (zero_base l.deep l.classes t.base) t.dimensions) (take l.t-index l.types)
