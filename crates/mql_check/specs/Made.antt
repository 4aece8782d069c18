-- The typed program: its structures, its functions, its global variables, its inputs and its entries (MQL5
-- Reference, Language Basics, Variables, Input Variables; Event Handling).
use Rattle.std.specs.Prelude.{ℕ, ◌+◌, false, List, [], ◌∷◌, ◌++◌, length, map, flat_map, Option, Some, None, slice_get, bytes_eq, if◌then◌else◌}
use Rattle.mql_mean.specs.declared.value.Value.{Value}
use Rattle.mql_meaning.specs.declared.types.VarType.{VarType}
use Rattle.mql_meaning.specs.declared.tree.Member.{Member}
use Rattle.mql_meaning.specs.declared.tree.Function.{Function}
use Rattle.mql_meaning.specs.declared.tree.Statement.{Statement}
use Rattle.mql_meaning.specs.declared.tree.Class.{Class}
use Rattle.mql_meaning.specs.declared.tree.Input.{Input}
use Rattle.mql_meaning.specs.declared.tree.Checked.{Checked}
use Rattle.mql_meaning.specs.declared.tree.Entries.{Entries}
use Rattle.mql_syntax.specs.declared.declaration.Variable.{Variable}
use Rattle.mql_syntax.specs.declared.declaration.Start.{Start}
use Rattle.mql_syntax.specs.declared.declaration.Start.TheVariants as start
use Rattle.mql_names.specs.declared.event.Event.{Event}
use Rattle.mql_names.specs.declared.event.Event.TheVariants as event
use Rattle.mql_names.specs.Events.{event_name}
use Rattle.mql_types.specs.declared.types.Base.{Base}
use Rattle.mql_types.specs.declared.types.Base.TheVariants as base
use Rattle.mql_types.specs.declared.overloads.Signature.{Signature}
use Rattle.mql_scope.specs.declared.context.Known.{Known}
use Rattle.mql_scope.specs.declared.context.Field.{Field}
use Rattle.mql_scope.specs.declared.context.Layout.{Layout}
use Rattle.mql_scope.specs.Contexts.{Text, Program}
use Rattle.mql_typed.specs.Typed.{var_type}
use Rattle.mql_statements.specs.declared.told.Static.{Static}
use Rattle.mql_statements.specs.Told.{evaluated}
use Rattle.mql_program.specs.Programs.{Given, is_input, global_type, zero_value, as_type_or_zero}
use Rattle.mql_check.specs.declared.globals.Beginning.{Beginning}
use Rattle.mql_check.specs.declared.bodies.Bodies.{Bodies}

-- inputs: the value that one has where none was set, and the members of its enumeration
abbrev pub constant_or_zero : Given → Base → Option Value → Value
constant_or_zero g b None = zero_value b
constant_or_zero g b (Some x) = as_type_or_zero g b x

abbrev pub start_value : Given → Base → Start → Value
start_value g b (start.Value v) = constant_or_zero g b (g.constant [] v)
start_value g b _ = zero_value b

abbrev pub members_of : Program → Base → List Member
members_of p (base.Enumeration n) = elim (slice_get p.enumerations n) [ None ↦ [] | Some e ↦ e.members ]
members_of p _ = []

abbrev pub input : Given → Program → ℕ → Variable → Input
input g p n v =
    let b = (global_type p v).base in
    record {
      global = n;
      name = v.name;
      optimisable = v.words.is_input;
      default = start_value g b v.start;
      members = members_of p b;
    }

abbrev pub input_at : Given → Program → ℕ → Variable → List Input
input_at g p n v = if is_input v then input g p n v ∷ [] else []

abbrev pub inputs_from : Given → Program → ℕ → List Variable → List Input
inputs_from g p n [] = []
inputs_from g p n (v ∷ vs) = input_at g p n v ++ inputs_from g p (n + 1) vs

-- structures as the meaning has them
abbrev pub field_type : Field → VarType
field_type f = var_type f.of

abbrev pub class_of : Layout → Class
class_of l =
    record { name = l.name; parent = None; fields = map field_type l.fields; methods = []; destructor = None }

-- the functions that are called at the beginning and at the end
abbrev pub own_function : List VarType → List Statement → Function
own_function locals steps =
    record { name = []; class = None; makes = false; lent = []; locals = locals; result = None; body = steps }

abbrev pub static_steps : Static → List Statement
static_steps s = evaluated s.line s.steps

abbrev pub static_type : Static → VarType
static_type s = s.of

abbrev pub known_type : Known → VarType
known_type k = var_type k.of

-- the number of the function of an event
abbrev pub number_of_name : Text → List Signature → Option ℕ
number_of_name x [] = None
number_of_name x (f ∷ fs) = if bytes_eq f.name x then Some f.number else number_of_name x fs

abbrev pub event_function : Program → Event → Option ℕ
event_function p e = number_of_name (event_name e) p.functions

-- behind the program's own functions stand the one for the beginning and the one for the end
abbrev pub entries : Program → ℕ → Entries
entries p count =
    record {
      start = Some count;
      init = event_function p event.Init;
      tick = event_function p event.Tick;
      trade = event_function p event.Trade;
      tester = event_function p event.Tester;
      deinit = event_function p event.Deinit;
      stop = Some (count + 1);
    }

abbrev pub functions_with_own : Beginning → Bodies → List Function
functions_with_own b fs =
    fs.functions
    ++ own_function b.kept (b.steps ++ flat_map static_steps fs.statics) ∷ own_function [] [] ∷ []

abbrev pub checked : Given → Program → List Variable → Beginning → Bodies → Checked
checked g p vs b fs =
    record {
      classes = map class_of p.structures;
      functions = functions_with_own b fs;
      globals = map known_type p.globals ++ map static_type fs.statics;
      inputs = inputs_from g p 0 vs;
      entries = entries p (length fs.functions);
    }
