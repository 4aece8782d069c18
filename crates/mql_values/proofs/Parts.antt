-- The constant that an expression is, by the parts that it is made of.
use Rattle.std.proofs.Common.{◌≡◌, ℕ, List, [], ◌∷◌, map, refl, sym, ap, ◌∙◌}
use Rattle.std.specs.Prelude.{Option, Some, None, option_map}
use Rattle.natives.specs.declared.types.ConstantValue.{ConstantValue}
use Rattle.natives.specs.declared.types.SimpleType.{SimpleType}
use Rattle.mql_mean.specs.declared.value.Value as constant
use Rattle.mql_syntax.specs.declared.kind.Place.{Place}
use Rattle.mql_syntax.specs.declared.value.Operation.{Operation}
use Rattle.mql_syntax.specs.declared.value.TypeUse.{TypeUse}
use Rattle.mql_syntax.specs.declared.value.Value as value
use Rattle.mql_syntax.specs.declared.value.Value.{Value, out-Value, roll-Value, roll-out-Value, Row_of-Value, end_of-Value, more_of-Value, items-the_row-Value, items_hidden-the_row-Value-0}
use Rattle.mql_syntax.specs.declared.value.Value.TheOpen.{Value-F}
use Rattle.mql_syntax.specs.declared.value.Value.TheVariants as values
use mathlib.Core.Former.{Count}
use denote.Hole.Carrier.{roll}
use Rattle.mql_constants.specs.Constants as number
use Rattle.mql_scope.specs.Contexts.{either}
use Rattle.mql_values.specs.Values.{number_value, made, constant_of, constants_row, Parts}

abbrev Numbers : Type 0
Numbers = List ℕ → Option ConstantValue

abbrev Types : Type 0
Types = TypeUse → Option SimpleType

of_row : (numbers : Numbers) (simple : Types) (n : _) (row : Row_of-Value n)
    → constants_row numbers simple row ≡ map (constant_of numbers simple) (items-the_row-Value n row)
of_row numbers simple n end_of-Value = refl
of_row numbers simple n (more_of-Value v vs) = ap (λ xs. constant_of numbers simple v ∷ xs) (of_row numbers simple _ vs)

abbrev what_in : Value-F Value → Operation
what_in (Value-F.Node place what types parts) = what

abbrev types_in : Value-F Value → List TypeUse
types_in (Value-F.Node place what types parts) = types

abbrev parts_in : Value-F Value → List Value
parts_in (Value-F.Node place what types parts) = parts

abbrev pub value_what : Value → Operation
value_what v = what_in (out-Value v)

abbrev pub value_types : Value → List TypeUse
value_types v = types_in (out-Value v)

abbrev pub value_parts : Value → List Value
value_parts v = parts_in (out-Value v)

abbrev value_row : Value → (n : Count) × Row_of-Value n
value_row (value.Node' place what types _ row) = (_, row)

-- a constant number, else what is made of the parts
abbrev told : Numbers → Types → Value → Operation → List TypeUse → Parts → Option constant.Value
told numbers simple v o types found =
    either (option_map number_value (number.constant_of numbers simple v)) (made simple o types found)

of_node : (numbers : Numbers) (simple : Types) (p : Place) (o : Operation) (types : List TypeUse) (parts : List Value)
    → constant_of numbers simple (values.Node p o types parts)
    ≡ told numbers simple (values.Node p o types parts) o types (map (constant_of numbers simple) parts)
of_node numbers simple p o types parts =
    let row = value_row (values.Node p o types parts) in
    ap (told numbers simple (values.Node p o types parts) o types) (of_row numbers simple row.0 row.1 ∙ ap (map (constant_of numbers simple)) (items_hidden-the_row-Value-0 parts))

of_rolled : (numbers : Numbers) (simple : Types) (w : Value-F Value)
    → constant_of numbers simple (roll-Value w) ≡ told numbers simple (roll-Value w) (what_in w) (types_in w) (map (constant_of numbers simple) (parts_in w))
unfolding roll-Value denote.Hole.Carrier.roll
of_rolled numbers simple (Value-F.Node p o types parts) = of_node numbers simple p o types parts

of_value : (numbers : Numbers) (simple : Types) (v : Value)
    → constant_of numbers simple v ≡ told numbers simple v (value_what v) (value_types v) (map (constant_of numbers simple) (value_parts v))
of_value numbers simple v =
    ap (constant_of numbers simple) (sym (roll-out-Value v)) ∙ of_rolled numbers simple (out-Value v)
    ∙ ap (λ (w : Value). told numbers simple w (value_what v) (value_types v) (map (constant_of numbers simple) (value_parts v))) (roll-out-Value v)

pub number_found : (numbers : Numbers) (simple : Types) (v : Value) (x : ConstantValue) (r : constant.Value)
    → number.constant_of numbers simple v ≡ Some x → r ≡ number_value x → Some r ≡ constant_of numbers simple v
number_found numbers simple v x r e s =
    sym (of_value numbers simple v ∙ ap (λ (n : Option ConstantValue). either (option_map number_value n) (made simple (value_what v) (value_types v) (map (constant_of numbers simple) (value_parts v)))) e ∙ ap Some (sym s))

pub made_of : (numbers : Numbers) (simple : Types) (v : Value) (what : Operation) (types : List TypeUse) (parts : List Value) (found : Parts) (r : Option constant.Value)
    → number.constant_of numbers simple v ≡ None
    → what ≡ value_what v → types ≡ value_types v → parts ≡ value_parts v → found ≡ map (constant_of numbers simple) parts
    → r ≡ made simple what types found → r ≡ constant_of numbers simple v
made_of numbers simple v what types parts found r e e1 e2 e3 h s =
    s ∙ ap (made simple what types) (h ∙ ap (map (constant_of numbers simple)) e3)
    ∙ ap (λ o. made simple o types (map (constant_of numbers simple) (value_parts v))) e1
    ∙ ap (λ ts. made simple (value_what v) ts (map (constant_of numbers simple) (value_parts v))) e2
    ∙ sym (of_value numbers simple v ∙ ap (λ (n : Option ConstantValue). either (option_map number_value n) (made simple (value_what v) (value_types v) (map (constant_of numbers simple) (value_parts v)))) e)
