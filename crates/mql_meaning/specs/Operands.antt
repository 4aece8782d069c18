-- Operands, and the limit of strings.
use Rattle.std.specs.Prelude.{ℕ, nat_le, List, [], ◌∷◌, length}
use Rattle.mql_mean.specs.declared.value.Value.{Value, out-Value}
use Rattle.mql_mean.specs.declared.value.Value.TheVariants as value
use Rattle.mql_mean.specs.declared.value.Value.TheOpen.{Value-F}
use Rattle.mql_mean.specs.declared.error.ErrorKind.TheVariants.{CellsExhausted}
use Rattle.mql_meaning.specs.declared.place.Place.{Place}
use Rattle.mql_meaning.specs.Changes.{Change, ◌>>◌, give, stuck, must}

-- what an expression gives: a value, or a place
pub data Operand : Type 0 where
  Val : (value : Value) → Operand
  At : (place : Place) → Operand

-- the longest string, in units (own)
abbrev pub most_units : ℕ
most_units = 65536

-- a string; one that is too long is CellsExhausted
abbrev pub text : List ℕ → Change Value
text s = do
  must (nat_le (length s) most_units) CellsExhausted
  give (value.Str s)

-- a literal: a string among them that is too long is CellsExhausted where it is evaluated
abbrev pub literal_at : Value-F Value → Value → Change Value
literal_at (Value-F.Str s) v = text s
literal_at _ v = give v

abbrev pub literal : Value → Change Value
literal v = literal_at (out-Value v) v

-- an operand that is a value, and one that is a place
abbrev pub a_value : Operand → Change Value
a_value (Val v) = give v
a_value (At p) = stuck

abbrev pub a_place : Operand → Change Place
a_place (Val v) = stuck
a_place (At p) = give p

-- no operand, one, or two
abbrev pub none : {A : Type 0} → Change A → List Operand → Change A
none f [] = f
none f (x ∷ xs) = stuck

abbrev pub on_one : {A : Type 0} → (Operand → Change A) → List Operand → Change A
on_one f (x ∷ []) = f x
on_one f _ = stuck

abbrev pub on_two : {A : Type 0} → (Operand → Operand → Change A) → List Operand → Change A
on_two f (x ∷ y ∷ []) = f x y
on_two f _ = stuck
