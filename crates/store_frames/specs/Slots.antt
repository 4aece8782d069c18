-- The locals of a call, one after another.
use Rattle.std.specs.Prelude.{ℕ, Bool, true, false, List, [], ◌∷◌, ◌++◌, Option, Some, None}
use Rattle.mql_meaning.specs.declared.cell.Cell.{Cell}
use Rattle.mql_meaning.specs.declared.store.Frame.{Frame}
use Rattle.mql_meaning.specs.declared.store.Slot.{Slot}
use Rattle.mql_meaning.specs.declared.store.Slot.TheVariants.{Own, Lent}
use Rattle.mql_meaning.specs.Changes.{Change, ◌>>=◌, the_store, becomes, then_some}
use Rattle.mql_meaning.specs.Cells.{put}
use Rattle.mql_meaning.specs.Operands.{Operand, Val, At}

-- a parameter, by reference or by value
abbrev pub slot : Bool → Cell → Operand → Option Slot
slot true c (At p) = Some (Lent p)
slot true c (Val v) = None
slot false c (Val v) = then_some (put c v) (λ d. Some (Own d))
slot false c (At p) = None

-- locals before others
abbrev pub ahead : List Slot → Option (List Slot) → Option (List Slot)
ahead ss more = then_some more (λ others. Some (ss ++ others))

-- a frame more, and so many cells in use
abbrev pub pushes : Frame → ℕ → Change (Unit {0})
pushes f n = do
  store ← the_store
  becomes (record store { frames = store.frames ++ f ∷ []; cells = n })
