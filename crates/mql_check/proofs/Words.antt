-- Words for small sources, and how they are typed.
use Rattle.std.proofs.Common.{ℕ, ℤ, pos, Bool, false, List, [], ◌∷◌, Option, Some, None}
use Rattle.std.specs.Prelude.{codes}
use Rattle.fx8.specs.declared.int_kind.IntKind.{IntKind}
use Rattle.fx8.specs.declared.int_kind.IntKind.TheVariants as kind
use Rattle.fx8.specs.Integers as Integers
use Rattle.natives.specs.declared.types.SimpleType.TheVariants as simple
use Rattle.mql_mean.specs.declared.value.Value as constant
use Rattle.mql_mean.specs.declared.value.Value.TheVariants as value
use Rattle.mql_meaning.specs.declared.tree.Expression.{Expression}
use Rattle.mql_meaning.specs.declared.tree.Expression.TheVariants as e
use Rattle.mql_meaning.specs.declared.operator.Operator.TheVariants as o
use Rattle.mql_syntax.specs.declared.kind.Place.{Place}
use Rattle.mql_syntax.specs.declared.kind.StatementKind.{StatementKind}
use Rattle.mql_syntax.specs.declared.value.Operation.{Operation}
use Rattle.mql_syntax.specs.declared.value.Operation.TheVariants as operation
use Rattle.mql_syntax.specs.declared.value.Value.{Value}
use Rattle.mql_syntax.specs.declared.value.Value as syntax
use Rattle.mql_syntax.specs.declared.value.Value.TheVariants as made
use Rattle.mql_syntax.specs.declared.statement.Statement.{Statement}
use Rattle.mql_syntax.specs.declared.statement.Statement.TheVariants as stated
use Rattle.mql_names.specs.declared.fault.Broken.{Broken}
use Rattle.mql_types.specs.declared.types.Base.{Base}
use Rattle.mql_types.specs.declared.types.Base.TheVariants as base
use Rattle.mql_types.specs.declared.types.DataType.{DataType}
use Rattle.mql_types.specs.declared.dimensions.Dimensions.TheVariants as dims
use Rattle.mql_types.specs.declared.overloads.Parameter.{Parameter}
use Rattle.mql_types.specs.declared.overloads.Signature.{Signature}
use Rattle.mql_types.specs.Overloads as Overloads
use Rattle.mql_scope.specs.declared.context.Known.{Known}
use Rattle.mql_scope.specs.declared.context.Storage.TheVariants as storage
use Rattle.mql_typed.specs.declared.info.Standing.{Standing}
use Rattle.mql_typed.specs.declared.info.Standing.TheVariants as stand
use Rattle.mql_scope.specs.Contexts.{Text, Program, Context}
use Rattle.mql_expressions.specs.declared.findings.Found.{Found}
use Rattle.mql_expressions.specs.Values.{found}
use Rattle.mql_statements.specs.declared.told.Told.{Told}
use Rattle.mql_statement_walk.specs.Walk.{told}
use Rattle.mql_expressions.specs.Rules as Rules
use Rattle.mql_expressions.specs.Made as Made
use Rattle.mql_statements.specs.Rules as Statements
use Rattle.mql_syntax.specs.declared.value.Value.TheBlock as ValueRow
use Rattle.mql_syntax.specs.declared.statement.Statement.TheBlock as StatementRow
use Rattle.mql_mean.specs.declared.value.Value.TheBlock as ConstantRow
use Rattle.mql_mean.specs.declared.value.Value.TheViews as ConstantView

-- node number n, which begins at token n
abbrev pub at : ℕ → Place
at n = record { at = n; first = n }

-- names and literals stand at the node that they are in
abbrev pub name : ℕ → Text → Value
name n x = made.Node (at n) (operation.Name x) [] []

abbrev pub number : ℕ → ℕ → Value
number n x = made.Node (at n) (operation.Int x kind.Int) [] []

abbrev pub real : ℕ → ℤ → Value
real n x = made.Node (at n) (operation.Double x) [] []

abbrev pub truth : ℕ → Bool → Value
truth n b = made.Node (at n) (operation.Bool b) [] []

abbrev pub node : ℕ → Operation → List Value → Value
node n what parts = made.Node (at n) what [] parts

abbrev pub statement : ℕ → StatementKind → List Value → List Statement → Statement
statement n what vs ps = stated.Node (at n) what [] vs ps

-- types and variables
abbrev pub of : IntKind → Base
of k = base.Simple (simple.Integer k)

abbrev pub single : Base → DataType
single b = record { base = b; dimensions = dims.None }

abbrev pub line : Base → DataType
line b = record { base = b; dimensions = dims.One 0 }

abbrev pub known : Text → DataType → Standing → ℕ → Known
known x t s n = record { name = x; of = t; stands = storage.Local n; standing = s }

abbrev pub parameter : DataType → Bool → Parameter
parameter t reference = record { of = t; reference = reference; constant = false; optional = false }

abbrev pub function : ℕ → Text → List Parameter → Signature
function n x ps = record { name = x; number = n; parameters = ps; result = None }

-- literals are constants
abbrev pub literal : Operation → Option constant.Value
literal (operation.Int x k) = Some (value.Num k (pos x))
literal (operation.Double x) = Some (value.Dbl x)
literal _ = None

abbrev pub constant_of : Value → Option constant.Value
constant_of (syntax.Node' place what types m row) = literal what

-- int i; uint u; const int c; double d; int a[]; string s, and functions
abbrev pub program : List Signature → Program
program fs =
    record {
      names = λ x. None;
      structures = [];
      enumerations = [];
      globals = [];
      functions = fs;
      default = λ n k. None;
      constant = λ ks. constant_of;
      line = λ p. p.first;
      file = λ p. [];
    }

abbrev pub locals : List Known
locals =
    known (codes "i") (single (of kind.Int)) stand.Variable 0 ∷ known (codes "u") (single (of kind.Uint)) stand.Variable 1 ∷
    known (codes "c") (single (of kind.Int)) stand.Constant 2 ∷ known (codes "d") (single (base.Simple simple.Double)) stand.Variable 3 ∷
    known (codes "a") (line (of kind.Int)) stand.Variable 4 ∷ known (codes "s") (single (base.Simple simple.String)) stand.Variable 5 ∷ []

abbrev pub context : List Signature → Context
context fs =
    record {
      program = program fs;
      function = codes "F";
      result = None;
      breaks = false;
      continues = false;
      locals = locals;
      next = 6;
      statics = 0;
    }

abbrev pub read : ℕ → Expression
read n = e.Apply o.Read (e.Apply (o.Local n) [] ∷ [])

-- what is told of an expression and of a statement
unfoldable pub finds : List Signature → Value → Found
unfolding Rules.callee_of Rules.handed_at Rules.lowest Made.made_at Made.tells Made.uses Overloads.choose ValueRow.hidden-the_row-Value-0 denote.Hole.Carrier.hidden
finds fs v = found (context fs) v

unfoldable pub tells : Statement → Told
unfolding Rules.callee_of Rules.handed_at Rules.lowest Made.made_at Made.tells Made.uses Overloads.choose Statements.lowest Integers.wrapped ConstantRow.shown-the_row-Value-0 ConstantView.out-Value ValueRow.hidden-the_row-Value-0 StatementRow.hidden-the_row-Statement-0 denote.Hole.Carrier.hidden denote.Hole.Carrier.shown denote.Hole.Carrier.out
tells s = told (context []) s

-- a rule that is broken at node n
abbrev pub breaks : ℕ → ℕ → List Broken
breaks r n = record { rule = r; node = n; first = n } ∷ []
