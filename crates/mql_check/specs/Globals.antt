-- Global variables: what they begin with before the program's first event, and their rules (MQL5 Reference,
-- Language Basics, Variables, Global Variables; Input Variables).
use Rattle.std.specs.Prelude.{ℕ, ◌+◌, Bool, true, false, not, ◌&&◌, ◌||◌, List, [], ◌∷◌, ◌++◌, length, Option, Some, None, if◌then◌else◌}
use Rattle.mql_meaning.specs.declared.tree.Expression.{Expression}
use Rattle.mql_meaning.specs.declared.tree.Statement.{Statement}
use Rattle.mql_syntax.specs.declared.declaration.Variable.{Variable}
use Rattle.mql_names.specs.declared.fault.Broken.{Broken}
use Rattle.mql_types.specs.declared.types.Base.{Base}
use Rattle.mql_types.specs.declared.types.Base.TheVariants as base
use Rattle.mql_types.specs.declared.types.DataType.{DataType}
use Rattle.mql_types.specs.Types.{is_array}
use Rattle.mql_scope.specs.declared.context.Storage.TheVariants as storage
use Rattle.mql_scope.specs.Contexts.{Program}
use Rattle.mql_scope.specs.Names.{stands_at}
use Rattle.mql_expressions.specs.Values.{broken_at}
use Rattle.mql_starts.specs.declared.initialisers.Begun.{Begun}
use Rattle.mql_starts.specs.Starts.{started, start_constant}
use Rattle.mql_statements.specs.Variables.{variable_type}
use Rattle.mql_statements.specs.Told.{evaluated}
use Rattle.mql_program.specs.Programs.{is_input, global_type}
use Rattle.mql_check.specs.declared.globals.Beginning.{Beginning}
use Rattle.mql_check.specs.Variables.{outside, dimensions_broken, sizes_used, owned}

-- 36 an initialiser of an input is not constant, or an input is an array or of another type
abbrev pub is_simple_type : Base → Bool
is_simple_type (base.Structure n) = false
is_simple_type _ = true

abbrev pub no_input_type : DataType → Bool
no_input_type t = is_array t.dimensions || not (is_simple_type t.base)

abbrev pub no_input : Program → Variable → DataType → Bool
no_input p v t = is_input v && (not (start_constant p [] v.start) || no_input_type t)

abbrev pub input_rule : Program → Variable → DataType → Option ℕ
input_rule p v t = if no_input p v t then Some 36 else None

-- 23 a variable of `void`
abbrev pub global_rule : Program → Variable → Option ℕ
global_rule p v = elim (variable_type p [] v) [ None ↦ Some 23 | Some t ↦ input_rule p v t ]

-- a global variable of a number begins, with the number of the next local
abbrev pub global_begun : Program → ℕ → ℕ → Variable → Begun
global_begun p next n v =
    started (outside p next) v.place (stands_at (storage.Global n)) (global_type p v) v.start

-- an input gets its value elsewhere
abbrev pub global_steps : Program → Variable → List Expression → List Statement
global_steps p v steps = if is_input v then [] else evaluated (p.line v.place) steps

abbrev pub global_broken : Program → Variable → List Broken → List Broken
global_broken p v begun = dimensions_broken p v ++ (begun ++ broken_at v.place (global_rule p v))

abbrev pub global_of : Program → Variable → Begun → Beginning
global_of p v b =
    record {
      steps = global_steps p v b.steps;
      kept = b.kept;
      broken = owned v.place (global_broken p v b.broken);
      used = sizes_used p v ++ b.used;
    }

abbrev pub nothing_begins : Beginning
nothing_begins = record { steps = []; kept = []; broken = []; used = [] }

abbrev pub then_begins : Beginning → Beginning → Beginning
then_begins a b =
    record {
      steps = a.steps ++ b.steps;
      kept = a.kept ++ b.kept;
      broken = a.broken ++ b.broken;
      used = a.used ++ b.used;
    }

-- global variables one after another, from the number of the first and of the next local on
abbrev pub globals_begin : Program → ℕ → ℕ → List Variable → Beginning
globals_begin p next n [] = nothing_begins
globals_begin p next n (v ∷ vs) =
    let b = global_of p v (global_begun p next n v) in
    then_begins b (globals_begin p (next + length b.kept) (n + 1) vs)
