-- Which function runs: virtual calls, destructors; conditions and names of values (MQL5 Reference,
-- Object-Oriented Programming, Virtual Functions, Polymorphism; Conversion Functions, EnumToString).
use Rattle.std.specs.Prelude.{ℕ, ◌==◌, Bool, List, [], ◌∷◌, Option, Some, None, slice_get}
use Rattle.fx8.specs.declared.int_operator.IntOperator.TheVariants as op
use Rattle.mql_mean.specs.declared.value.Value.{Value}
use Rattle.mql_mean.specs.declared.value.Value.TheVariants as value
use Rattle.mql_mean.specs.declared.error.ErrorKind.TheVariants.{PureCall}
use Rattle.mql_meaning.specs.declared.place.Root.{Root}
use Rattle.mql_meaning.specs.declared.place.Root.TheVariants as root
use Rattle.mql_meaning.specs.declared.place.Place.{Place}
use Rattle.mql_meaning.specs.declared.store.Object.{Object}
use Rattle.mql_meaning.specs.declared.types.Sort.TheVariants as sort
use Rattle.mql_meaning.specs.declared.tree.Callee.{Callee}
use Rattle.mql_meaning.specs.declared.tree.Callee.TheVariants as callee
use Rattle.mql_meaning.specs.declared.tree.Class.{Class}
use Rattle.mql_meaning.specs.Changes.{Change, ◌>>=◌, give, stuck, the, the_store, fail, either, then_some}
use Rattle.mql_meaning.specs.Places.{object, at_root, serial_of}
use Rattle.mql_meaning.specs.Objects.{is_kind, found, goes_by, living, status_of}
use Rattle.mql_meaning.specs.Operands.{Operand, Val, a_value, a_place, on_one, text}
use Rattle.mql_meaning.specs.Operators.{binary, convert, holds, sort_of}

-- the method that is found: a pure one is PureCall, and so is one that the class under construction does not
-- have yet
abbrev pub method : Option (Option ℕ) → Change ℕ
method (Some (Some k)) = give k
method (Some None) = fail PureCall
method None = fail PureCall

-- the object at a place
abbrev pub object_at : Root → Change Object
object_at (root.Object s) = object s
object_at _ = stuck

-- the method of a signature that an object has, through a place of a class of which it must be
abbrev pub method_of : List Class → ℕ → ℕ → Object → Change ℕ
method_of classes class signature o = do
  store ← the_store
  either (is_kind classes o.class class) (method (found classes (goes_by o store) signature)) stuck

-- the function that a call calls: a virtual one goes by the object at the first operand
abbrev pub chosen : List Class → Callee → List Operand → Change ℕ
chosen classes (callee.Direct k) xs = give k
chosen classes (callee.Virtual class signature) [] = stuck
chosen classes (callee.Virtual class signature) (x ∷ xs) =
    a_place x >>= λ (p : Place). object_at p.root >>= method_of classes class signature

-- the destructor of the object of a pointer
abbrev pub destructor : List Class → Value → Change ℕ
destructor classes v = do
  s ← the (serial_of v)
  o ← object s
  the (then_some (slice_get classes o.class) (λ (c : Class). c.destructor))

-- what a pointer is, and whether it is `NULL`
abbrev pub status : Value → Change ℕ
status v = living v >>= λ o. give (status_of o)

abbrev pub null : Value → Change Bool
null v = the (serial_of v) >>= λ s. give (s == 0)

-- the place of the object of a pointer
abbrev pub serial_place : Value → Change Place
serial_place v = the (serial_of v) >>= λ s. give (at_root (root.Object s))

-- one operand, which is a value; a condition
abbrev pub one_value : List Operand → Change Value
one_value xs = on_one a_value xs

abbrev pub condition : Operand → Change Bool
condition x = a_value x >>= holds

-- whether a value equals one of a sort
abbrev pub equals : Value → Value → Change Bool
equals x y = do
  t ← the (sort_of y)
  b ← binary op.Equal t x y
  holds b

-- the name of a value: the text of the first one that it equals, else a text and its number in decimal
abbrev pub name_in : Value → List Value → List (List ℕ) → List ℕ → Change Value
name_in x (k ∷ ks) (s ∷ ss) prefix = equals x k >>= λ b. either b (text s) (name_in x ks ss prefix)
name_in x _ _ prefix = convert sort.String x >>= λ y. binary op.Add sort.String (value.Str prefix) y

abbrev pub name_of : Operand → List Value → List (List ℕ) → List ℕ → Change Operand
name_of x ks ss prefix = a_value x >>= λ v. name_in v ks ss prefix >>= λ y. give (Val y)

abbrev pub equals_operand : Operand → Value → Change Bool
equals_operand x k = a_value x >>= λ v. equals v k
