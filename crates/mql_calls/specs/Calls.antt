-- Calls of the program's functions (MQL5 Reference, Functions; Function Overloading; Passing Parameters).
use Rattle.std.specs.Prelude.{ℕ, ◌+◌, List, [], ◌∷◌, ◌++◌, Option, Some, None, is_some, if◌then◌else◌}
use Rattle.mql_mean.specs.declared.value.Value.{Value}
use Rattle.mql_meaning.specs.declared.types.VarType.{VarType}
use Rattle.mql_meaning.specs.declared.tree.Expression.{Expression}
use Rattle.mql_meaning.specs.declared.tree.Expression.TheVariants as expression
use Rattle.mql_meaning.specs.declared.tree.Callee.TheVariants as callee
use Rattle.mql_types.specs.declared.types.Base.{Base}
use Rattle.mql_types.specs.declared.overloads.Argument.{Argument}
use Rattle.mql_types.specs.declared.overloads.Parameter.{Parameter}
use Rattle.mql_types.specs.declared.overloads.Signature.{Signature}
use Rattle.mql_types.specs.Overloads.{choose}
use Rattle.mql_arguments.specs.Arguments.{chosen_in}
use Rattle.mql_typed.specs.declared.info.Info.{Info}
use Rattle.mql_scope.specs.Contexts.{Text, Program, Context}
use Rattle.mql_typed.specs.Typed.{converted, a_value, nothing}
use Rattle.mql_calls.specs.Nodes.{Node, all_kept}

abbrev pub chosen : Program → Text → List Argument → Option Signature
chosen p x given = chosen_in p.functions (choose x given p.functions)

-- the arguments that are handed over: places to references, values in the parameters' types, and defaults
abbrev pub defaulted : Option Value → List Expression
defaulted None = []
defaulted (Some v) = expression.Constant v ∷ []

abbrev pub handed : Parameter → Info → Expression
handed p i = if p.reference then i.typed else converted p.of.base i

abbrev pub handed_over : (ℕ → Option Value) → ℕ → List Parameter → List Info → List Expression
handed_over default k [] is = []
handed_over default k (p ∷ ps) [] = defaulted (default k) ++ handed_over default (k + 1) ps []
handed_over default k (p ∷ ps) (i ∷ is) = handed p i ∷ handed_over default (k + 1) ps is

abbrev pub call_expression : Program → Signature → List Info → Expression
call_expression p f is =
    expression.Call (callee.Direct f.number) (is_some f.result)
    (handed_over (p.default f.number) 0 f.parameters is)

abbrev pub given_in : Option Base → List VarType → Expression → Info
given_in None kept e = nothing kept e
given_in (Some b) kept e = a_value b kept e

abbrev pub call_info : Program → Signature → List Info → Info
call_info p f is = given_in f.result (all_kept is) (call_expression p f is)
