-- Parts of the definitions of operators.
use Rattle.std.specs.Prelude.{ℕ, ℤ, pos, Bool, true, false, List, Result}
use Rattle.fx8.specs.declared.fix_fault.FixFault.{FixFault}
use Rattle.fx8.specs.declared.int_kind.IntKind.TheVariants as kind
use Rattle.fx8.specs.declared.int_operator.IntOperator.{IntOperator}
use Rattle.fx8.specs.declared.int_operator.IntOperator.TheVariants as op
use Rattle.mql_mean.specs.declared.error.ErrorKind.{ErrorKind}
use Rattle.mql_mean.specs.declared.value.Value.{Value}
use Rattle.mql_mean.specs.declared.value.Value.TheVariants as value
use Rattle.mql_mean.specs.declared.error.ErrorKind.TheVariants.{BadCast}
use Rattle.mql_meaning.specs.declared.operator.Bump.{Bump}
use Rattle.mql_meaning.specs.declared.operator.Bump.TheVariants as bump
use Rattle.mql_meaning.specs.declared.place.Place.{Place}
use Rattle.mql_meaning.specs.declared.tree.Class.{Class}
use Rattle.mql_meaning.specs.declared.types.Sort.{Sort}
use Rattle.mql_meaning.specs.Changes.{Change, ◌>>=◌, give, fail, the, either}
use Rattle.mql_meaning.specs.Objects.{is_kind}
use Rattle.mql_meaning.specs.Operators.{no_fault, sort_of, convert, binary, bump_sort, Update, update}
use Rattle.mql_meaning.specs.Places.{write}

-- a double, or the error of a fault of arithmetic
abbrev pub a_double : Result ℤ FixFault → Change Value
a_double r = no_fault r >>= λ z. give (value.Dbl z)

-- a cast that is refused: an error where it is strict, else NULL
abbrev pub refused : Bool → ErrorKind → Change Value
refused strict kind = either strict (fail kind) (give (value.Ptr 0))

-- a pointer to an object of one class, cast to another one
abbrev pub cast_class : List Class → ℕ → Bool → Value → ℕ → Change Value
cast_class classes wanted strict v class =
    either (is_kind classes class wanted) (give v) (refused strict BadCast)

-- an old value with an operator and another one: both are taken into the sort, the result back
abbrev pub renewed : IntOperator → Sort → Value → Value → Change Value
renewed o t y old = do
  own ← the (sort_of old)
  x ← convert t old
  z ← binary o t x y
  convert own z

-- an old value with 1 more or less
abbrev pub counted : IntOperator → Value → Change Value
counted o old = do
  own ← the (sort_of old)
  y ← convert (bump_sort own) (value.Num kind.Int (pos 1))
  renewed o (bump_sort own) y old

-- a place gets a value, and one is given
abbrev pub keeps : Value → Value → Place → Change Value
keeps new given p = write new p >>= λ _. give given

-- a place gets its old value with an operator and another one, and gives its new value
abbrev pub updated : IntOperator → Sort → Value → Place → Change Value
updated o t y p = update o t y p >>= λ (u : Update). give u.new

-- the operator of `++` and `--`, and whether it stands before its place
abbrev pub counts_by : Bump → IntOperator
counts_by bump.MoreFirst = op.Add
counts_by bump.LessFirst = op.Subtract
counts_by bump.MoreAfter = op.Add
counts_by bump.LessAfter = op.Subtract

abbrev pub stands_first : Bump → Bool
stands_first bump.MoreFirst = true
stands_first bump.LessFirst = true
stands_first bump.MoreAfter = false
stands_first bump.LessAfter = false

-- a place whose old value is known gets 1 more or less, and gives the new value or the old one
abbrev pub bumped_from : Bump → Value → Place → Change Value
bumped_from b old p =
    counted (counts_by b) old >>= λ new. keeps new (either (stands_first b) new old) p
