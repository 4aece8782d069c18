-- Arguments as the code has them, and what is read of them.
use Rattle.std.specs.Prelude.{ℤ, ℕ, List, [], ◌∷◌, map, Option, Some, None}
use Rattle.mql_mean.specs.declared.value.Value.{Value}
use Rattle.mql_meaning.specs.declared.cell.Cell.{Cell, out-Cell}
use Rattle.mql_meaning.specs.Changes.{then_some}
use Rattle.mql_meaning.specs.Places.{number_of, value_at}
use Rattle.mql_meaning.specs.Operators.{string_of, units_of}
use Rattle.mql_meaning.specs.ArrayFunctions.{ArrayParts, array_of}
use Rattle.mql_meaning.specs.Natives as meaning
use Rattle.mql_meaning.specs.Natives.{Given, Lent}
use Rattle.store_places.specs.Seen.{seen}
use Rattle.native_arguments.specs.declared.argument.Argument.{Argument}
use Rattle.native_arguments.specs.declared.argument.Argument.TheVariants as code
use Rattle.native_arguments.specs.declared.argument.Array.{Array}

-- the argument of the meaning
abbrev pub shown : Argument → meaning.Argument
shown (code.Given v) = Given v.now
shown (code.Lent s) = Lent (seen s)

abbrev pub all_shown : List Argument → List meaning.Argument
all_shown xs = map shown xs

-- the parts of an array that is lent
abbrev pub parts_of : Array → ArrayParts
parts_of a = record { dynamic = a.dynamic; series = a.series; unit = a.unit.now; cells = a.items.now }

-- an argument itself
abbrev pub itself : meaning.Argument → Option meaning.Argument
itself x = Some x

-- what an argument is read as, where it is that
abbrev pub value_in : meaning.Argument → Option Value
value_in (Given v) = Some v
value_in (Lent c) = None

abbrev pub cell_in : meaning.Argument → Option Cell
cell_in (Given v) = None
cell_in (Lent c) = Some c

abbrev pub number_in : meaning.Argument → Option ℤ
number_in x = then_some (value_in x) number_of

abbrev pub double_in : meaning.Argument → Option ℤ
double_in x = then_some (value_in x) units_of

abbrev pub string_in : meaning.Argument → Option (List ℕ)
string_in x = then_some (value_in x) string_of

abbrev pub lent_string_in : meaning.Argument → Option (List ℕ)
lent_string_in x = then_some (cell_in x) (λ c. then_some (value_at (out-Cell c)) string_of)

abbrev pub array_in : meaning.Argument → Option ArrayParts
array_in x = then_some (cell_in x) array_of

-- one argument that is read, two, three; none where there are not so many
abbrev pub read_1 : {A : Type 0} → (meaning.Argument → Option A) → List meaning.Argument → Option A
read_1 p (x ∷ []) = p x
read_1 p _ = None

abbrev pub read_2 : {A B : Type 0} → (meaning.Argument → Option A) → (meaning.Argument → Option B)
    → List meaning.Argument → Option (A × B)
read_2 p q (x ∷ y ∷ []) = then_some (p x) (λ a. then_some (q y) (λ b. Some (a, b)))
read_2 p q _ = None

abbrev pub read_3 : {A B C : Type 0} → (meaning.Argument → Option A) → (meaning.Argument → Option B)
    → (meaning.Argument → Option C) → List meaning.Argument → Option (A × B × C)
read_3 p q r (x ∷ y ∷ z ∷ []) =
    then_some (p x) (λ a. then_some (q y) (λ b. then_some (r z) (λ c. Some (a, b, c))))
read_3 p q r _ = None

-- one argument that is read, and the others, which are values
abbrev pub all_values : List meaning.Argument → Option (List Value)
all_values [] = Some []
all_values (x ∷ xs) = then_some (value_in x) (λ v. then_some (all_values xs) (λ vs. Some (v ∷ vs)))
