-- Operators on operands: variables, fields, elements, objects, assignments (MQL5 Reference, Language Basics,
-- Operations and Expressions).
use Rattle.std.specs.Prelude.{List}
use Rattle.mql_mean.specs.declared.value.Value.{Value}
use Rattle.mql_meaning.specs.declared.operator.Operator.{Operator}
use Rattle.mql_meaning.specs.declared.operator.Operator.TheVariants as operator
use Rattle.mql_meaning.specs.declared.place.Place.{Place}
use Rattle.mql_meaning.specs.declared.place.Root.TheVariants as root
use Rattle.mql_meaning.specs.declared.tree.Class.{Class}
use Rattle.mql_meaning.specs.Changes.{Change, ◌>>=◌, give}
use Rattle.mql_meaning.specs.Places.{read, write, index, pointed, pointer_of, local_place, this_place, field_place, at_root}
use Rattle.mql_meaning.specs.Objects.{cast}
use Rattle.mql_meaning.specs.Operands.{Operand, Val, At, a_value, a_place, none, on_one, on_two}
use Rattle.mql_meaning.specs.Operators.{unary_of, binary, convert, Update, update, bump_at}

-- as an operand
abbrev pub placed : Change Place → Change Operand
placed f = f >>= λ p. give (At p)

abbrev pub valued : Change Value → Change Operand
valued f = f >>= λ v. give (Val v)

-- of one value, one place, two values, or a value and a place
abbrev pub of_value : (Value → Change Operand) → List Operand → Change Operand
of_value f = on_one (λ x. a_value x >>= f)

abbrev pub of_place : (Place → Change Operand) → List Operand → Change Operand
of_place f = on_one (λ x. a_place x >>= f)

abbrev pub of_values : (Value → Value → Change Operand) → List Operand → Change Operand
of_values f = on_two (λ x y. a_value x >>= λ v. a_value y >>= f v)

abbrev pub to_place : (Value → Place → Change Operand) → List Operand → Change Operand
to_place f = on_two (λ x y. a_value x >>= λ v. a_place y >>= f v)

-- an operator on its operands
abbrev pub apply : List Class → Operator → List Operand → Change Operand
apply classes (operator.Local l) = none (placed (local_place l))
apply classes (operator.Global g) = none (give (At (at_root (root.Global g))))
apply classes operator.This = none (placed this_place)
apply classes (operator.Field i) = of_place (λ p. give (At (field_place i p)))
apply classes operator.Index = on_two (λ x y. a_place x >>= λ p. a_value y >>= λ i. placed (index p i))
apply classes operator.Object = of_value (λ v. placed (pointed v))
apply classes operator.Read = of_place (λ p. valued (read p))
apply classes operator.PointerOf = of_place (λ p. valued (pointer_of p))
apply classes operator.Keep = to_place (λ v p. write v p >>= λ _. give (Val v))
apply classes (operator.Update o t) = to_place (λ v p. update o t v p >>= λ (u : Update). give (Val u.new))
apply classes (operator.Bump b) = of_place (λ p. valued (bump_at b p))
apply classes (operator.Unary u t) = of_value (λ v. valued (unary_of u t v))
apply classes (operator.Binary o t) = of_values (λ v w. valued (binary o t v w))
apply classes (operator.Convert t) = of_value (λ v. valued (convert t v))
apply classes (operator.Cast class strict) = of_value (λ v. valued (cast classes class strict v))
