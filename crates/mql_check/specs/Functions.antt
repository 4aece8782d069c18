-- Functions: their parameters and their bodies (MQL5 Reference, Language Basics, Functions).
use Rattle.std.specs.Prelude.{ℕ, ◌+◌, Bool, true, false, not, ◌&&◌, List, [], ◌∷◌, ◌++◌, length, map, flat_map, Option, Some, None, is_some, is_none, option_map, if◌then◌else◌}
use Rattle.mql_meaning.specs.declared.types.VarType.{VarType}
use Rattle.mql_meaning.specs.declared.tree.Function as typed
use Rattle.mql_meaning.specs.declared.tree.Statement.{Statement}
use Rattle.mql_syntax.specs.declared.value.Value.{Value}
use Rattle.mql_syntax.specs.declared.declaration.Start.{Start}
use Rattle.mql_syntax.specs.declared.declaration.Start.TheVariants as start
use Rattle.mql_syntax.specs.declared.declaration.Param.{Param}
use Rattle.mql_syntax.specs.declared.declaration.Body.{Body}
use Rattle.mql_syntax.specs.declared.declaration.Body.TheVariants as body
use Rattle.mql_syntax.specs.declared.declaration.Function.{Function}
use Rattle.mql_names.specs.declared.fault.Broken.{Broken}
use Rattle.mql_names.specs.Things.{body_parts}
use Rattle.mql_types.specs.declared.types.Base.{Base}
use Rattle.mql_scope.specs.declared.context.Known.{Known}
use Rattle.mql_scope.specs.declared.context.Storage.TheVariants as storage
use Rattle.mql_scope.specs.Contexts.{Program, Context}
use Rattle.mql_typed.specs.declared.info.Info.{Info}
use Rattle.mql_typed.specs.Typed.{single, value_base, var_type}
use Rattle.mql_calls.specs.Nodes.{passes}
use Rattle.mql_expressions.specs.Rules.{no_fit}
use Rattle.mql_expressions.specs.Values.{broken_at, innermost}
use Rattle.mql_statements.specs.declared.told.Told.{Told}
use Rattle.mql_statements.specs.Closing.{closes}
use Rattle.mql_statements.specs.Variables.{known}
use Rattle.mql_statement_walk.specs.Walk.{told_all}
use Rattle.mql_program.specs.Programs.{global_type, result_of}
use Rattle.mql_check.specs.declared.bodies.Bodies.{Bodies}
use Rattle.mql_check.specs.Variables.{found_outside, dimensions_broken, sizes_used}

-- parameters are the first locals
abbrev pub param_known : Program → ℕ → Param → Known
param_known p n q = known q.variable (global_type p q.variable) (storage.Local n)

abbrev pub params_known : Program → ℕ → List Param → List Known
params_known p n [] = []
params_known p n (q ∷ qs) = param_known p n q ∷ params_known p (n + 1) qs

abbrev pub param_type : Program → Param → VarType
param_type p q = var_type (global_type p q.variable)

abbrev pub is_reference : Param → Bool
is_reference q = q.reference

-- 13 a default has no conversion to its parameter, 36 it is not constant
abbrev pub no_conversion : Base → Option Info → Bool
no_conversion b i = passes (λ (j : Info). passes (no_fit b) (value_base j)) i

abbrev pub constant_rule : Program → Value → Option ℕ
constant_rule p v = if is_none (p.constant [] v) then Some 36 else None

abbrev pub value_rule : Program → Base → Value → Option ℕ
value_rule p b v = if no_conversion b (found_outside p v).info then Some 13 else constant_rule p v

abbrev pub default_rule : Program → Base → Start → Option ℕ
default_rule p b start.Zero = None
default_rule p b (start.Value v) = value_rule p b v
default_rule p b (start.Arguments vs) = Some 36

-- a parameter's default: what is broken in it, and the functions that it calls
abbrev pub start_broken : Program → Start → List Broken
start_broken p (start.Value v) = (found_outside p v).broken
start_broken p _ = []

abbrev pub start_used : Program → Start → List ℕ
start_used p (start.Value v) = (found_outside p v).used
start_used p _ = []

abbrev pub param_rule : Program → Param → Option ℕ
param_rule p q = default_rule p (global_type p q.variable).base q.variable.start

abbrev pub param_broken : Program → Param → List Broken
param_broken p q =
    innermost q.variable.place
    (dimensions_broken p q.variable
    ++ (start_broken p q.variable.start ++ broken_at q.variable.place (param_rule p q)))

abbrev pub param_used : Program → Param → List ℕ
param_used p q = sizes_used p q.variable ++ start_used p q.variable.start

-- a function's body, with the number of its first static variable
abbrev pub function_context : Program → ℕ → Function → Context
function_context p statics f =
    record {
      program = p;
      function = f.name;
      result = result_of p f;
      breaks = false;
      continues = false;
      locals = params_known p 0 f.params;
      next = length f.params;
      statics = statics;
    }

abbrev pub body_told : Program → ℕ → Function → Told
body_told p statics f = told_all (function_context p statics f) (body_parts f.body)

-- 40 a function with a result whose end can be reached
abbrev pub body_closes : Body → Bool
body_closes (body.Block s) = closes s
body_closes _ = true

abbrev pub end_reached : Option Base → Body → Bool
end_reached result b = is_some result && not (body_closes b)

abbrev pub function_rule : Program → Function → Option ℕ
function_rule p f = if end_reached (result_of p f) f.body then Some 40 else None

abbrev pub function_broken : Program → Function → List Broken → List Broken
function_broken p f inner =
    innermost f.place
    (flat_map (param_broken p) f.params ++ (inner ++ broken_at f.place (function_rule p f)))

abbrev pub function_used : Program → Function → List ℕ → List ℕ
function_used p f inner = flat_map (param_used p) f.params ++ inner

-- a typed function, of the locals behind its parameters and of its statements
abbrev pub result_type : Option Base → Option VarType
result_type b = option_map (λ a. var_type (single a)) b

abbrev pub typed_function : Program → Function → List VarType → List Statement → typed.Function
typed_function p f kept steps =
    record {
      name = f.name;
      class = None;
      makes = false;
      lent = map is_reference f.params;
      locals = map (param_type p) f.params ++ kept;
      result = result_type (result_of p f);
      body = steps;
    }

abbrev pub body_of : Program → Function → Told → Bodies
body_of p f t =
    record {
      functions = typed_function p f t.kept t.typed ∷ [];
      statics = t.statics;
      broken = function_broken p f t.broken;
      used = function_used p f t.used;
    }

abbrev pub no_bodies : Bodies
no_bodies = record { functions = []; statics = []; broken = []; used = [] }

abbrev pub then_bodies : Bodies → Bodies → Bodies
then_bodies a b =
    record {
      functions = a.functions ++ b.functions;
      statics = a.statics ++ b.statics;
      broken = a.broken ++ b.broken;
      used = a.used ++ b.used;
    }

-- functions one after another, from the number of the first static variable on
abbrev pub bodies : Program → ℕ → List Function → Bodies
bodies p statics [] = no_bodies
bodies p statics (f ∷ fs) =
    let b = body_of p f (body_told p statics f) in
    then_bodies b (bodies p (statics + length b.statics) fs)
