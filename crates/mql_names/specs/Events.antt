-- Event functions (MQL5 Reference, Event Handling): `int` or `void OnInit()`, `void OnTick()`,
-- `void OnTrade()`, `double OnTester()`, `void OnDeinit(const int reason)`.
use Rattle.std.specs.Prelude.{ℕ, Bool, true, false, not, ◌&&◌, ◌||◌, ◌==◌, List, [], ◌∷◌, length, codes, Option, Some, None, is_some}
use Rattle.fx8.specs.declared.int_kind.IntKind.TheVariants as kind
use Rattle.natives.specs.declared.types.SimpleType.TheVariants as simple
use Rattle.mql_spelling.specs.Spelled.{spelled_among}
use Rattle.mql_syntax.specs.declared.value.TypeUse.{TypeUse}
use Rattle.mql_syntax.specs.declared.declaration.Param.{Param}
use Rattle.mql_syntax.specs.declared.declaration.Function.{Function}
use Rattle.mql_syntax.specs.declared.declaration.Item.{Item}
use Rattle.mql_syntax.specs.declared.declaration.Item.TheVariants as item
use Rattle.mql_names.specs.declared.types.Sort.{Sort}
use Rattle.mql_names.specs.declared.types.Sort.TheVariants as sort
use Rattle.mql_names.specs.declared.event.Event.{Event}
use Rattle.mql_names.specs.declared.event.Event.TheVariants as event
use Rattle.mql_names.specs.declared.event.TheConstants.{EVENTS}
use Rattle.mql_names.specs.Scopes.{Name}
use Rattle.mql_names.specs.Types.{Names, type_sort}

unfoldable pub event_name : Event → Name
event_name event.Init = codes "OnInit"
event_name event.Tick = codes "OnTick"
event_name event.Trade = codes "OnTrade"
event_name event.Tester = codes "OnTester"
event_name event.Deinit = codes "OnDeinit"

unfoldable pub event_named : Name → Option Event
event_named x = spelled_among event_name EVENTS x

-- the event function that a function is by its name; a method is none
unfoldable pub event_of : Function → Option Event
event_of f = elim (f.scope) [ None ↦ event_named f.name | Some c ↦ None ]

abbrev pub is_void : Sort → Bool
is_void sort.Void = true
is_void _ = false

abbrev pub is_int : Sort → Bool
is_int (sort.Simple (simple.Integer kind.Int)) = true
is_int _ = false

abbrev pub is_double : Sort → Bool
is_double (sort.Simple simple.Double) = true
is_double _ = false

abbrev pub result_fits : Event → Sort → Bool
result_fits event.Init s = is_int s || is_void s
result_fits event.Tester s = is_double s
result_fits event.Tick s = is_void s
result_fits event.Trade s = is_void s
result_fits event.Deinit s = is_void s

-- the reason is an `int`, no array and no reference; `const` is no part of its type
unfoldable pub is_reason : Names → Param → Bool
is_reason names q =
    is_int (type_sort names q.variable.of) && (length q.variable.dimensions == 0) && not q.reference

abbrev pub one_reason : Names → List Param → Bool
one_reason names [] = false
one_reason names (q ∷ []) = is_reason names q
one_reason names (q ∷ r ∷ qs) = false

abbrev pub params_fit : Names → Event → List Param → Bool
params_fit names event.Deinit qs = one_reason names qs
params_fit names event.Init qs = length qs == 0
params_fit names event.Tick qs = length qs == 0
params_fit names event.Trade qs = length qs == 0
params_fit names event.Tester qs = length qs == 0

abbrev pub result_is : Names → Event → Option TypeUse → Bool
result_is names e None = false
result_is names e (Some t) = result_fits e (type_sort names t)

unfoldable pub is_event : Names → Event → Function → Bool
is_event names e f = result_is names e f.result && params_fit names e f.params

-- an event function has other parameters or another result
unfoldable pub other_event : Names → Function → Bool
other_event names f = elim (event_of f) [ None ↦ false | Some e ↦ not (is_event names e f) ]

-- one of the five is there
abbrev pub is_event_item : Item → Bool
is_event_item (item.Function f) = is_some (event_of f)
is_event_item _ = false

abbrev pub some_event : List Item → Bool
some_event [] = false
some_event (i ∷ is) = is_event_item i || some_event is
