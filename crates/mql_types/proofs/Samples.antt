-- Types and choices, worked out by hand.
use Rattle.std.proofs.Common.{◌≡◌, ℕ, true, false, [], ◌∷◌, Some, None, refl}
use Rattle.std.specs.Prelude.{codes}
use Rattle.fx8.specs.declared.int_kind.IntKind.TheVariants as kind
use Rattle.fx8.specs.declared.int_kind.IntKind.{IntKind}
use Rattle.fx8.specs.declared.int_operator.IntOperator.TheVariants as op
use Rattle.natives.specs.declared.types.SimpleType.TheVariants as simple
use Rattle.mql_meaning.specs.declared.types.Sort.TheVariants as sort
use Rattle.mql_types.specs.declared.types.Base.{Base}
use Rattle.mql_types.specs.declared.types.Base.TheVariants as base
use Rattle.mql_types.specs.declared.types.DataType.{DataType}
use Rattle.mql_types.specs.declared.dimensions.Dimensions.TheVariants as dims
use Rattle.mql_types.specs.declared.overloads.Argument.{Argument}
use Rattle.mql_types.specs.declared.overloads.Parameter.{Parameter}
use Rattle.mql_types.specs.declared.overloads.Signature.{Signature}
use Rattle.mql_types.specs.declared.overloads.Choice.TheVariants as choice
use Rattle.mql_types.specs.Conversions.{common_kind, cost}
use Rattle.mql_types.specs.Operators.{binary_sort, result_base, no_numbers, bits_of_double, compares_structures, branches}
use Rattle.mql_types.specs.Overloads.{choose}

int : Base
int = base.Simple (simple.Integer kind.Int)

of : IntKind → Base
of k = base.Simple (simple.Integer k)

double : Base
double = base.Simple simple.Double

string : Base
string = base.Simple simple.String

-- int / int is an int; char + char too; uint with int compares as uint; int with double is double
divided : binary_sort op.Divide int int ≡ Some (sort.Number kind.Int)
unfolding int
divided = refl

small : binary_sort op.Add (of kind.Char) (of kind.Char) ≡ Some (sort.Number kind.Int)
unfolding of
small = refl

unsigned : binary_sort op.Less (of kind.Uint) int ≡ Some (sort.Number kind.Uint)
unfolding of int
unsigned = refl

comparison : result_base op.Less (sort.Number kind.Uint) ≡ of kind.Bool
unfolding of
comparison = refl

mixed : binary_sort op.Multiply int double ≡ Some sort.Double
unfolding int double
mixed = refl

-- long with uint is long, datetime with long is long, datetime with itself stays, color with int is int
wide : common_kind kind.Long kind.Uint ≡ kind.Long
wide = refl

times : common_kind kind.Datetime kind.Long ≡ kind.Long
times = refl

time : common_kind kind.Datetime kind.Datetime ≡ kind.Datetime
time = refl

colors : common_kind kind.Color kind.Int ≡ kind.Int
colors = refl

-- a string joins a number, and compares with one; % of a double and - of a string are refused
joins : binary_sort op.Add string int ≡ Some sort.String
unfolding string int
joins = refl

rest_of_double : bits_of_double op.Remainder double int ≡ true
unfolding double int
rest_of_double = refl

minus_string : no_numbers op.Subtract string int ≡ true
unfolding string int
minus_string = refl

equal_structures : compares_structures op.Equal (base.Structure 5) (base.Structure 5) ≡ true
equal_structures = refl

-- the branches of ?: of one type have it; those of an int and a double are double; an int and a string have none
same_branches : branches (of kind.Bool) (of kind.Bool) ≡ Some (of kind.Bool)
unfolding of
same_branches = refl

double_branches : branches int double ≡ Some double
unfolding int double
double_branches = refl

-- costs: the same, wider, another number, a string
costs_nothing : cost int int ≡ 0
unfolding int
costs_nothing = refl

costs_one : cost int (of kind.Long) ≡ 1
unfolding int of
costs_one = refl

costs_two : cost (of kind.Long) double ≡ 2
unfolding of double
costs_two = refl

costs_three : cost int string ≡ 3
unfolding int string
costs_three = refl

-- a bool fits in a char, an unsigned kind in a wider signed one
bool_in_char : cost (of kind.Bool) (of kind.Char) ≡ 1
unfolding of
bool_in_char = refl

-- functions f of one parameter
single : Base → DataType
single b = record { base = b; dimensions = dims.None }

line : Base → DataType
line b = record { base = b; dimensions = dims.One 0 }

by_value : DataType → Parameter
by_value t = record { of = t; reference = false; constant = false; optional = false }

by_reference : DataType → Parameter
by_reference t = record { of = t; reference = true; constant = false; optional = false }

f : ℕ → Parameter → Signature
f n p = record { name = codes "f"; number = n; parameters = p ∷ []; result = None }

a_value : Base → Argument
a_value b = record { of = single b; place = false; fixed = false }

a_variable : DataType → Argument
a_variable t = record { of = t; place = true; fixed = false }

a_constant : DataType → Argument
a_constant t = record { of = t; place = true; fixed = true }

-- the cheaper overload
cheaper : choose (codes "f") (a_value int ∷ []) (f 0 (by_value (single double)) ∷ f 1 (by_value (single int)) ∷ []) ≡ choice.Function 1
unfolding choose f a_value by_value single int double
cheaper = refl

-- two that fit equally: an int has all its values in a long and in a double
equal : choose (codes "f") (a_value int ∷ []) (f 0 (by_value (single double)) ∷ f 1 (by_value (single (of kind.Long))) ∷ []) ≡ choice.Equal
unfolding choose f a_value by_value single int double of
equal = refl

-- a literal is no place, so the overload by value is taken
literal : choose (codes "f") (a_value int ∷ []) (f 0 (by_reference (single int)) ∷ f 1 (by_value (single double)) ∷ []) ≡ choice.Function 1
unfolding choose f a_value by_reference by_value single int double
literal = refl

-- a constant is not lent where another overload takes it; alone, the function is meant, and its rule is told
constant : choose (codes "f") (a_constant (single int) ∷ []) (f 0 (by_reference (single int)) ∷ f 1 (by_value (single double)) ∷ []) ≡ choice.Function 1
unfolding choose f a_constant by_reference by_value single int double
constant = refl

constant_alone : choose (codes "f") (a_constant (single int) ∷ []) (f 0 (by_reference (single int)) ∷ []) ≡ choice.Function 0
unfolding choose f a_constant by_reference single int
constant_alone = refl

-- an array is lent; no parameter by value takes one but loosely; a structure is no number
lent_array : choose (codes "f") (a_variable (line int) ∷ []) (f 0 (by_reference (line int)) ∷ f 1 (by_value (line int)) ∷ []) ≡ choice.Function 0
unfolding choose f a_variable by_reference by_value line int
lent_array = refl

array_by_value : choose (codes "f") (a_variable (line int) ∷ []) (f 1 (by_value (line int)) ∷ []) ≡ choice.Function 1
unfolding choose f a_variable by_value line int
array_by_value = refl

structure : choose (codes "f") (a_value (base.Structure 5) ∷ []) (f 1 (by_value (single int)) ∷ []) ≡ choice.Nothing
unfolding choose f a_value by_value single int
structure = refl
