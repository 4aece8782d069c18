-- Whole programs, judged by hand.
use Rattle.std.proofs.Common.{◌≡◌, ℕ, pos, true, false, List, [], ◌∷◌, Option, Some, None, refl}
use Rattle.std.specs.Prelude.{codes}
use Rattle.fx8.specs.Integers as Integers
use Rattle.mql_spelling.specs.ReservedWords as ReservedWords
use Rattle.mql_syntax.specs.declared.value.TypeUse.{TypeUse}
use Rattle.mql_syntax.specs.declared.value.TypeUse.TheVariants as type
use Rattle.mql_syntax.specs.declared.value.TypeUse.TheBlock as TypeRow
use Rattle.mql_syntax.specs.declared.value.Value.{Value}
use Rattle.mql_syntax.specs.declared.value.Value.TheBlock as ValueRow
use Rattle.mql_syntax.specs.declared.statement.Statement.{Statement}
use Rattle.mql_syntax.specs.declared.statement.Statement.TheVariants as stated
use Rattle.mql_syntax.specs.declared.statement.Statement.TheBlock as StatementRow
use Rattle.mql_syntax.specs.declared.kind.StatementKind.TheVariants as stating
use Rattle.mql_syntax.specs.declared.kind.BinaryOperator.TheVariants.{Remainder}
use Rattle.mql_syntax.specs.declared.value.Operation.{Operation}
use Rattle.mql_syntax.specs.declared.value.Operation.TheVariants as operation
use Rattle.mql_syntax.specs.declared.declaration.Words.{Words}
use Rattle.mql_syntax.specs.declared.declaration.Variable.{Variable}
use Rattle.mql_syntax.specs.declared.declaration.Dimension.{Dimension}
use Rattle.mql_syntax.specs.declared.declaration.Dimension.TheVariants.{Size}
use Rattle.mql_syntax.specs.declared.declaration.Start.{Start}
use Rattle.mql_syntax.specs.declared.declaration.Start.TheVariants as start
use Rattle.mql_syntax.specs.declared.declaration.Body.{Body}
use Rattle.mql_syntax.specs.declared.declaration.Body.TheVariants as body
use Rattle.mql_syntax.specs.declared.declaration.Member.TheVariants as members
use Rattle.mql_syntax.specs.declared.declaration.Parent.{Parent}
use Rattle.mql_syntax.specs.declared.kind.Access.{Access}
use Rattle.mql_syntax.specs.declared.kind.Access.TheVariants as accesses
use Rattle.mql_syntax.specs.declared.kind.ClassKind.TheVariants as class_kinds
use Rattle.mql_syntax.specs.declared.declaration.Item.{Item}
use Rattle.mql_syntax.specs.declared.declaration.Item.TheVariants as item
use Rattle.mql_mean.specs.declared.value.Value.TheBlock as ConstantRow
use Rattle.mql_mean.specs.declared.value.Value.TheViews as ConstantView
use Rattle.mql_names.specs.declared.fault.Broken.{Broken}
use Rattle.mql_names.specs.Types as Types
use Rattle.mql_names.specs.Events as Events
use Rattle.mql_types.specs.Overloads as Overloads
use Rattle.mql_expressions.specs.Rules as Rules
use Rattle.mql_expressions.specs.Made as Made
use Rattle.mql_statements.specs.Rules as Statements
use Rattle.mql_check.specs.Programs.{told_broken, breaks_bodies}
use Rattle.mql_program.specs.Programs.{Given, program_of}
use Rattle.mql_check.proofs.Words.{at, name, number, real, node, statement, constant_of}

given : Given
given = record { constant = λ ks. constant_of; as_type = λ b v. Some v; line = λ p. p.first; file = λ p. [] }

words : Words
words = record { is_input = false; is_static_input = false; is_static = false; is_const = false; is_virtual = false }

int : ℕ → TypeUse
int n = type.Named (at n) (codes "int") false []

double : ℕ → TypeUse
double n = type.Named (at n) (codes "double") false []

-- a function of node n, and a variable of node n
function : ℕ → List ℕ → Option TypeUse → List Statement → Item
function n x result ss =
    item.Function (record {
      place = at n;
      nodes = 1;
      types = [];
      words = words;
      result = result;
      scope = None;
      destructor = false;
      name = x;
      params = [];
      bases = [];
      overrides = false;
      body = body.Block (statement n stating.Block [] ss);
    })

variable : ℕ → Words → TypeUse → List ℕ → List Dimension → Start → Variable
variable n w t x ds v = record { place = at n; words = w; of = t; scope = None; name = x; dimensions = ds; start = v }

declares : ℕ → Variable → Statement
declares n v = stated.Node (at n) stating.Declaration (v ∷ []) [] []

-- what is told of a program
unfoldable judges : List Item → Option Broken
unfolding program_of Types.word_sort Types.own_sort Types.named_sort Types.type_key ReservedWords.reserved_word ReservedWords.word_spelling Rules.callee_of Rules.handed_at Rules.lowest Made.made_at Made.tells Made.uses Overloads.choose Statements.lowest Integers.wrapped ConstantRow.shown-the_row-Value-0 ConstantView.out-Value TypeRow.hidden-the_row-TypeUse-0 ValueRow.hidden-the_row-Value-0 StatementRow.hidden-the_row-Statement-0 denote.Hole.Carrier.hidden denote.Hole.Carrier.shown denote.Hole.Carrier.out
judges items = told_broken given items

-- int f() {}: 40 at the function; int f() { return 1; } is none
end_reached : judges (function 1 (codes "f") (Some (int 1)) [] ∷ []) ≡ Some (record { rule = 40; node = 1; first = 1 })
unfolding judges function int words given
end_reached = refl

returns : judges (function 1 (codes "f") (Some (int 1)) (statement 2 stating.Return (number 2 1 ∷ []) [] ∷ []) ∷ []) ≡ None
unfolding judges function int words given
returns = refl

-- void f() { int a[2] = {1, 2, 3}; }: 35 at the braces; with two values none; int i = {1}: 35 at the declaration
braces : ℕ → List Value → Start
braces n vs = start.Value (node n operation.Braces vs)

list : List Value → List Item
list vs = function 1 (codes "f") None (declares 2 (variable 2 words (int 2) (codes "a") (Size (number 2 2) ∷ []) (braces 3 vs)) ∷ []) ∷ []

too_long : judges (list (number 3 1 ∷ number 3 2 ∷ number 3 3 ∷ [])) ≡ Some (record { rule = 35; node = 3; first = 3 })
unfolding judges list function declares variable braces int words given
too_long = refl

fits : judges (list (number 3 1 ∷ number 3 2 ∷ [])) ≡ None
unfolding judges list function declares variable braces int words given
fits = refl

no_list : judges (function 1 (codes "f") None (declares 2 (variable 2 words (int 2) (codes "i") [] (braces 3 (number 3 1 ∷ []))) ∷ []) ∷ [])
    ≡ Some (record { rule = 35; node = 2; first = 2 })
unfolding judges function declares variable braces int words given
no_list = refl

-- input int N = 3; is assigned in f: 11; input int N = M; of a variable: 36
input : Words
input = record words { is_input = true }

global : Words → List ℕ → Start → Item
global w x v = item.Variable (variable 1 w (int 1) x [] v)

assigned : judges (global input (codes "N") (start.Value (number 1 3)) ∷ function 2 (codes "f") None
    (statement 3 stating.Evaluation (node 4 operation.Assign (name 4 (codes "N") ∷ number 4 1 ∷ []) ∷ []) [] ∷ []) ∷ [])
    ≡ Some (record { rule = 11; node = 4; first = 4 })
unfolding judges global function variable input int words given
assigned = refl

not_constant : judges (global words (codes "M") start.Zero ∷ global input (codes "N") (start.Value (name 1 (codes "M"))) ∷ [])
    ≡ Some (record { rule = 36; node = 1; first = 1 })
unfolding judges global variable input int words given
not_constant = refl

-- a local hides a global of its name: double i; void f() { int i; i % 2; } is none; without the local it is 15
hides : judges (item.Variable (variable 1 words (double 1) (codes "i") [] start.Zero) ∷ function 2 (codes "f") None
    (declares 3 (variable 3 words (int 3) (codes "i") [] start.Zero) ∷
    statement 4 stating.Evaluation (node 5 (operation.Binary Remainder) (name 5 (codes "i") ∷ number 5 2 ∷ []) ∷ []) [] ∷ []) ∷ [])
    ≡ None
unfolding judges function declares variable double int words given
hides = refl

global_seen : judges (item.Variable (variable 1 words (double 1) (codes "i") [] start.Zero) ∷ function 2 (codes "f") None
    (statement 4 stating.Evaluation (node 5 (operation.Binary Remainder) (name 5 (codes "i") ∷ number 5 2 ∷ []) ∷ []) [] ∷ []) ∷ [])
    ≡ Some (record { rule = 15; node = 5; first = 5 })
unfolding judges function variable double words given
global_seen = refl

-- struct A { int x; }; struct B : A { int y; }; void f() { B b; b.x % 2; } is none; where A is taken privately it is 3;
-- struct B : A { double x; } hides the integer, so b.x % 2 is 15; b.z is 2
named : ℕ → List ℕ → TypeUse
named n x = type.Named (at n) x false []

structure : ℕ → List ℕ → Option Parent → TypeUse → List ℕ → Item
structure n x parent t field =
    item.Class (record {
      place = at n;
      nodes = 1;
      types = [];
      kind = class_kinds.Struct;
      name = x;
      parent = parent;
      defined = true;
      members = members.Variable accesses.Public (variable n words t field [] start.Zero) ∷ [];
    })

child : Option Access → TypeUse → List ℕ → List ℕ → Operation → List Item
child a t field asked what =
    structure 1 (codes "A") None (int 1) (codes "x")
    ∷ structure 2 (codes "B") (Some (record { access = a; of = named 2 (codes "A") })) t field
    ∷ function 3 (codes "f") None
    (declares 4 (variable 4 words (named 4 (codes "B")) (codes "b") [] start.Zero)
    ∷ statement 5 stating.Evaluation (node 6 what (node 7 (operation.Member asked) (name 7 (codes "b") ∷ []) ∷ number 6 2 ∷ []) ∷ []) []
    ∷ [])
    ∷ []

inherits : judges (child None (int 2) (codes "y") (codes "x") (operation.Binary Remainder)) ≡ None
unfolding judges child structure named function declares variable int words given
inherits = refl

taken_privately : judges (child (Some accesses.Private) (int 2) (codes "y") (codes "x") (operation.Binary Remainder)) ≡ Some (record { rule = 3; node = 7; first = 7 })
unfolding judges child structure named function declares variable int words given
taken_privately = refl

own_hides : judges (child None (double 2) (codes "x") (codes "x") (operation.Binary Remainder)) ≡ Some (record { rule = 15; node = 6; first = 6 })
unfolding judges child structure named function declares variable int double words given
own_hides = refl

no_field : judges (child None (int 2) (codes "y") (codes "z") (operation.Binary Remainder)) ≡ Some (record { rule = 2; node = 7; first = 7 })
unfolding judges child structure named function declares variable int words given
no_field = refl

-- int f(int a); int f(double a) { return 1; } void g() { f(1); }: the first is called and has no body; f(1.5) calls the second
announces : ℕ → List ℕ → TypeUse → Body → Item
announces n x of b =
    item.Function (record {
      place = at n;
      nodes = 1;
      types = [];
      words = words;
      result = Some (int n);
      scope = None;
      destructor = false;
      name = x;
      params = record { reference = false; variable = variable n words of (codes "a") [] start.Zero } ∷ [];
      bases = [];
      overrides = false;
      body = b;
    })

returning : Body
returning = body.Block (statement 2 stating.Block [] (statement 2 stating.Return (number 2 1 ∷ []) [] ∷ []))

calling : Value → List Item
calling v =
    announces 1 (codes "f") (int 1) body.Declared ∷ announces 2 (codes "f") (double 2) returning ∷
    function 3 (codes "g") None (statement 4 stating.Evaluation (node 5 operation.Call (name 5 (codes "f") ∷ v ∷ []) ∷ []) [] ∷ []) ∷ []

-- what breaks the rule on bodies
unfoldable misses : List Item → List Broken
unfolding program_of breaks_bodies Types.word_sort Types.own_sort Types.named_sort Types.type_key ReservedWords.reserved_word ReservedWords.word_spelling Rules.callee_of Rules.handed_at Rules.lowest Made.made_at Made.tells Made.uses Overloads.choose Statements.lowest Integers.wrapped ConstantRow.shown-the_row-Value-0 ConstantView.out-Value TypeRow.hidden-the_row-TypeUse-0 ValueRow.hidden-the_row-Value-0 StatementRow.hidden-the_row-Statement-0 denote.Hole.Carrier.hidden denote.Hole.Carrier.shown denote.Hole.Carrier.out Events.event_of Events.event_named Events.event_name Types.param_key
misses items = breaks_bodies given (record { place = at 0; nodes = 1; items = items })

no_body_called : misses (calling (number 5 1)) ≡ record { rule = 9; node = 1; first = 1 } ∷ []
unfolding misses calling announces returning function variable int double words given
no_body_called = refl

other_called : misses (calling (real 5 (pos 150000000))) ≡ []
unfolding misses calling announces returning function variable int double words given
other_called = refl
