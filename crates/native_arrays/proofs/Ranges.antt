-- Dimensions of arrays.
use Rattle.std.proofs.Common.{◌≡◌, ℕ, zero, suc, ◌-◌, ◌≤◌, List, [], ◌∷◌, None, refl, arith}
use Rattle.mql_meaning.specs.declared.cell.Cell.{Cell}
use Rattle.mql_meaning.specs.Changes.{then_some}
use Rattle.mql_meaning.specs.ArrayFunctions.{ArrayParts, array_of, range}

pub no_unit : (d : ℕ) (cs : List Cell) → 1 ≤ d → range d [] cs ≡ None
no_unit zero cs h = absurd (omega (arith, h))
no_unit (suc d) cs h = refl

pub next_range : (d : ℕ) (u : Cell) (us cs : List Cell) → 1 ≤ d →
    range d (u ∷ us) cs ≡ then_some (array_of u) (λ (a : ArrayParts). range (d - 1) a.unit a.cells)
next_range zero u us cs h = absurd (omega (arith, h))
next_range (suc d) u us cs h = let e : suc d - 1 ≡ d = omega arith in rw e refl
