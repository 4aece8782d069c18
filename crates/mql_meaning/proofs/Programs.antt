-- Words for small programs, and how they are run.
use Rattle.std.proofs.Common.{ℕ, zero, suc, ℤ, pos, Bool, true, false, List, [], ◌∷◌, Option, Some, None}
use Rattle.std.specs.Prelude.{map}
use Rattle.fx8.specs.declared.int_kind.IntKind.{IntKind}
use Rattle.fx8.specs.declared.int_kind.IntKind.TheVariants as kind
use Rattle.fx8.specs.declared.int_operator.IntOperator.{IntOperator}
use Rattle.fx8.specs.declared.int_operator.IntOperator.TheVariants as op
use Rattle.fx8.specs.Integers as Integers
use Rattle.fx8.specs.Operators as IntOperators
use Rattle.fx8.specs.Doubles as Doubles
use Rattle.fx8.specs.Rounding as Rounding
use Rattle.fx8.specs.Decimals as Decimals
use Rattle.jiff_core.specs.Calendar as Calendar
use Rattle.natives.specs.Names as Names
use Rattle.natives.specs.Signatures as Signatures
use Rattle.natives.specs.declared.native.Native.{Native}
use Rattle.natives.specs.declared.native.Native.TheVariants as natives
use Rattle.mql_mean.specs.Answer.{Answer, Replied}
use Rattle.mql_mean.specs.declared.host.HostCall.{HostCall}
use Rattle.mql_mean.specs.declared.value.Value.TheVariants as value
use Rattle.mql_meaning.specs.declared.types.Base.{Base}
use Rattle.mql_meaning.specs.declared.types.Base.TheVariants as base
use Rattle.mql_meaning.specs.declared.types.VarType.{VarType}
use Rattle.mql_meaning.specs.declared.types.Sort.{Sort}
use Rattle.mql_meaning.specs.declared.types.Sort.TheVariants as sort
use Rattle.mql_meaning.specs.declared.operator.Operator.{Operator}
use Rattle.mql_meaning.specs.declared.operator.Operator.TheVariants as o
use Rattle.mql_meaning.specs.declared.tree.Callee.TheVariants as callee
use Rattle.mql_meaning.specs.declared.tree.Class.{Class}
use Rattle.mql_meaning.specs.declared.tree.Method.{Method}
use Rattle.mql_meaning.specs.declared.tree.Expression.{Expression}
use Rattle.mql_meaning.specs.declared.tree.Expression.TheVariants as e
use Rattle.mql_meaning.specs.declared.tree.Statement.{Statement}
use Rattle.mql_meaning.specs.declared.tree.Statement.TheVariants as s
use Rattle.mql_meaning.specs.declared.tree.Function.{Function}
use Rattle.mql_meaning.specs.declared.tree.Entries.{Entries}
use Rattle.mql_meaning.specs.declared.tree.Checked.{Checked}
use Rattle.mql_meaning.specs.declared.tree.Entry.{Entry}
use Rattle.mql_meaning.specs.declared.tree.Entry.TheVariants as entry
use Rattle.mql_meaning.specs.Changes.{Ended, Returned}
use Rattle.mql_meaning.specs.Runs.{World, world, ◌>>=◌, ◌>>◌, pure, halt, change, spend, choose}
use Rattle.mql_meaning.specs.Calls.{ask}
use Rattle.std.specs.Fmt.{digits}
use Rattle.mql_meaning.specs.Texts.{printed}
use Rattle.mql_meaning.specs.Frames.{opening}
use Rattle.mql_meaning.specs.Means.{Outcome, means}
use Rattle.mql_meaning.specs.declared.tree.Expression.TheBlock as ExpressionRow
use Rattle.mql_meaning.specs.declared.tree.Statement.TheBlock as StatementRow
use Rattle.mql_meaning.specs.declared.cell.Cell.TheBlock as CellRow
use Rattle.mql_meaning.specs.declared.cell.Cell.TheViews as CellView
use Rattle.mql_mean.specs.declared.value.Value.TheBlock as ValueRow
use Rattle.mql_mean.specs.declared.value.Value.TheViews as ValueView

-- literals
abbrev pub int : ℤ → Expression
int x = e.Constant (value.Num kind.Int x)

abbrev pub num : IntKind → ℤ → Expression
num k x = e.Constant (value.Num k x)

abbrev pub dbl : ℤ → Expression
dbl x = e.Constant (value.Dbl x)

abbrev pub txt : List ℕ → Expression
txt t = e.Constant (value.Str t)

abbrev pub yes' : Expression
yes' = num kind.Bool (pos 1)

abbrev pub no' : Expression
no' = num kind.Bool (pos 0)

-- operators
abbrev pub on0 : Operator → Expression
on0 f = e.Apply f []

abbrev pub on1 : Operator → Expression → Expression
on1 f a = e.Apply f (a ∷ [])

abbrev pub on2 : Operator → Expression → Expression → Expression
on2 f a b = e.Apply f (a ∷ b ∷ [])

abbrev pub loc : ℕ → Expression
loc l = on0 (o.Local l)

abbrev pub glob : ℕ → Expression
glob g = on0 (o.Global g)

abbrev pub rd : Expression → Expression
rd p = on1 o.Read p

abbrev pub var : ℕ → Expression
var l = rd (loc l)

abbrev pub binary : IntOperator → Expression → Expression → Expression
binary f a b = on2 (o.Binary f (sort.Number kind.Int)) a b

abbrev pub binary_d : IntOperator → Expression → Expression → Expression
binary_d f a b = on2 (o.Binary f sort.Double) a b

abbrev pub join : Expression → Expression → Expression
join a b = on2 (o.Binary op.Add sort.String) a b

abbrev pub convert : Sort → Expression → Expression
convert t a = on1 (o.Convert t) a

abbrev pub put : Expression → Expression → Expression
put p v = on2 o.Keep v p

abbrev pub this : Expression
this = on0 o.This

abbrev pub object : Expression → Expression
object p = on1 o.Object p

abbrev pub pointer : Expression → Expression
pointer p = on1 o.PointerOf p

abbrev pub element : Expression → Expression → Expression
element a i = on2 o.Index a i

abbrev pub field : ℕ → Expression → Expression
field i p = on1 (o.Field i) p

abbrev pub native : Native → List Expression → Expression
native f xs = e.Native f xs

abbrev pub call : ℕ → List Expression → Expression
call k xs = e.Call (callee.Direct k) false xs

abbrev pub value_call : ℕ → List Expression → Expression
value_call k xs = e.Call (callee.Direct k) true xs

-- statements, each with its line
abbrev pub does : ℕ → Expression → Statement
does line x = s.Evaluate line x

abbrev pub set : ℕ → Expression → Expression → Statement
set line p v = does line (put p v)

abbrev pub print : ℕ → List Expression → Statement
print line xs = does line (native natives.Print xs)

abbrev pub say : ℕ → List ℕ → Statement
say line t = print line (txt t ∷ [])

abbrev pub calls : ℕ → ℕ → List Expression → Statement
calls line k xs = does line (call k xs)

abbrev pub virtual : ℕ → ℕ → ℕ → Expression → Statement
virtual line class k x = does line (e.Call (callee.Virtual class k) false (x ∷ []))

-- types
abbrev pub of_type : Base → VarType
of_type b = record { base = b; dimensions = [] }

abbrev pub array_of : Base → List ℕ → VarType
array_of b ns = record { base = b; dimensions = ns }

abbrev pub ints : VarType
ints = of_type (base.Number kind.Int)

abbrev pub an_object : ℕ → VarType
an_object k = of_type (base.Object k)

abbrev pub a_pointer : ℕ → VarType
a_pointer k = of_type (base.Pointer k)

-- functions: void or with a value of a type, with parameters or without; methods, constructors and destructors of
-- a class
abbrev pub function : Option ℕ → Bool → List Bool → List VarType → Option VarType → List Statement → Function
function class makes lent locals result body =
    record { name = []; class = class; makes = makes; lent = lent; locals = locals; result = result; body = body }

abbrev pub void : List VarType → List Statement → Function
void locals body = function None false [] locals None body

abbrev pub taking : List Bool → List VarType → List Statement → Function
taking lent locals body = function None false lent locals None body

abbrev pub giving : VarType → List Bool → List VarType → List Statement → Function
giving result lent locals body = function None false lent locals (Some result) body

abbrev pub method : ℕ → List Statement → Function
method class body = function (Some class) false [] [] None body

abbrev pub making : ℕ → List Statement → Function
making class body = function (Some class) true [] [] None body

-- classes and structures
abbrev pub class : Option ℕ → List VarType → List Method → ℕ → Class
class parent fields methods destructor =
    record { name = []; parent = parent; fields = fields; methods = methods; destructor = Some destructor }

abbrev pub structure : List VarType → Class
structure fields = record { name = []; parent = None; fields = fields; methods = []; destructor = None }

abbrev pub has : ℕ → ℕ → Method
has signature k = record { signature = signature; function = Some k }

abbrev pub pure_method : ℕ → Method
pure_method signature = record { signature = signature; function = None }

-- a program whose first function is OnTick
abbrev pub no_entries : Entries
no_entries = record { start = None; init = None; tick = None; trade = None; tester = None; deinit = None; stop = None }

abbrev pub with_classes : List Class → List Function → Checked
with_classes classes fs =
    record { classes = classes; functions = fs; globals = []; inputs = []; entries = record no_entries { tick = Some 0 } }

abbrev pub program : List Function → Checked
program fs = with_classes [] fs

abbrev pub body : List VarType → List Statement → Checked
body locals ss = program (void locals ss ∷ [])

-- so many calls are answered as Print is
abbrev pub answer : Answer
answer = Replied (record { value = value.Num kind.Int (pos 0); outs = [] })

abbrev pub answers : ℕ → List Answer
answers zero = []
answers (suc n) = answer ∷ answers n

-- how a run ended, and what the world was told: the line that Print writes of the arguments of each call
pub record Told : Type 0 where
  pub end : Ended
  pub lines : List (Option (List ℕ))

abbrev pub line_of : HostCall → Option (List ℕ)
line_of c = printed c.args

abbrev pub call_number : HostCall → ℕ
call_number c = c.id

abbrev pub told : Outcome → Told
told r = record { end = r.ended; lines = map line_of r.world.calls }

abbrev pub tells : Ended → List (List ℕ) → Told
tells end lines = record { end = end; lines = map Some lines }

abbrev pub done : Ended
done = Returned (value.Num kind.Int (pos 0))

-- what an event comes to from a world, within so many steps
unfoldable pub outcome_of : Checked → Entry → ℤ → ℕ → World → Outcome
unfolding ◌>>=◌ ◌>>◌ pure halt change spend choose ask digits ExpressionRow.hidden-the_row-Expression-0 StatementRow.hidden-the_row-Statement-0 CellRow.hidden-the_row-Cell-0 CellRow.shown-the_row-Cell-0 CellView.out-Cell ValueRow.hidden-the_row-Value-0 ValueRow.shown-the_row-Value-0 ValueView.out-Value denote.Hole.Carrier.hidden denote.Hole.Carrier.shown denote.Hole.Carrier.out Integers.wrapped IntOperators.exact Doubles.fits_double Rounding.rounded Decimals.units_of Decimals.double_of_text Decimals.decimals Decimals.text_of Calendar.days_of_years Calendar.days_of_months Calendar.day_count Calendar.days_from_civil Names.native_number Signatures.signature Signatures.error_number
outcome_of p event arg n w = means p event arg n w

-- the first world, and the outcome of OnTick from there
abbrev pub first_world : World
first_world = world (opening []) [] (answers 30)

unfoldable pub run : Checked → ℕ → Told
unfolding outcome_of
run p n = told (outcome_of p entry.Tick (pos 0) n first_world)
