-- The rules of declarations, each by what breaks it (MQL5 Reference, Language Basics).
use Rattle.std.specs.Prelude.{Bool, true, false, not, ◌&&◌, ◌||◌, nat_lt, List, [], ◌∷◌, ◌++◌, flat_map, length, Option, is_none}
use Rattle.mql_syntax.specs.declared.declaration.Dimension.{Dimension}
use Rattle.mql_syntax.specs.declared.declaration.Dimension.TheVariants.{Open, Size}
use Rattle.mql_syntax.specs.declared.declaration.Start.TheVariants as start
use Rattle.mql_syntax.specs.declared.declaration.Param.{Param}
use Rattle.mql_syntax.specs.declared.declaration.Item.{Item}
use Rattle.mql_syntax.specs.declared.declaration.Item.TheVariants as item
use Rattle.mql_syntax.specs.declared.declaration.Syntax.{Syntax}
use Rattle.mql_names.specs.declared.fault.Broken.{Broken}
use Rattle.mql_names.specs.declared.types.Sort.{Sort}
use Rattle.mql_names.specs.declared.types.Sort.TheVariants as sort
use Rattle.mql_names.specs.Faults.{break_if, told}
use Rattle.mql_names.specs.Scopes.{repeated}
use Rattle.mql_names.specs.Types.{Names, type_sort, type_place}
use Rattle.mql_names.specs.Meanings.{names_of}
use Rattle.mql_names.specs.Things.{Thing, things_of}
use Rattle.mql_names.specs.Things as thing
use Rattle.mql_names.specs.Events.{other_event, some_event}

-- 1 a name is declared twice in its scope (functions: with equal parameter types)
abbrev pub twice : Names → Thing → List Broken
twice names (thing.scope ns) = repeated [] ns
twice names _ = []

-- 2 an unknown type, or a function without a result type
abbrev pub is_unknown : Sort → Bool
is_unknown sort.Unknown = true
is_unknown _ = false

abbrev pub unknown_type : Names → Thing → List Broken
unknown_type names (thing.type t) = break_if (is_unknown (type_sort names t)) 2 (type_place t)
unknown_type names (thing.function f) = break_if (is_none f.result) 2 f.place
unknown_type names _ = []

-- 12 over four dimensions, or a later one empty
abbrev pub is_open : Dimension → Bool
is_open Open = true
is_open (Size v) = false

abbrev pub some_open : List Dimension → Bool
some_open [] = false
some_open (d ∷ ds) = is_open d || some_open ds

abbrev pub later_open : List Dimension → Bool
later_open [] = false
later_open (d ∷ ds) = some_open ds

abbrev pub dimensions : Names → Thing → List Broken
dimensions names (thing.variable locals v) =
    break_if (nat_lt 4 (length v.dimensions) || later_open v.dimensions) 12 v.place
dimensions names _ = []

-- 15 a parameter without default after one with
abbrev pub has_default : Param → Bool
has_default q =
    elim (q.variable.start) [ start.Zero ↦ false | start.Value v ↦ true | start.Arguments vs ↦ true ]

-- a parameter lacks a default, where it is said whether one had a default before
abbrev pub lacks_after : Bool → List Param → Bool
lacks_after had [] = false
lacks_after had (q ∷ qs) = (had && not (has_default q)) || lacks_after (had || has_default q) qs

abbrev pub defaults : Names → Thing → List Broken
defaults names (thing.function f) = break_if (lacks_after false f.params) 15 f.place
defaults names _ = []

-- 16 an event function has other parameters or another result, or none of the five is there
abbrev pub event_breaks : Names → Item → List Broken
event_breaks names (item.Function f) = break_if (other_event names f) 16 f.place
event_breaks names _ = []

abbrev pub events : Names → Thing → List Broken
events names (thing.program s) =
    flat_map (event_breaks names) s.items ++ break_if (not (some_event s.items)) 16 s.place
events names _ = []

-- the rules at a thing
abbrev pub breaks : Names → Thing → List Broken
breaks names t =
    twice names t ++ (unknown_type names t ++ (dimensions names t ++ (defaults names t ++ events names t)))

-- what is told of things
abbrev pub told_of : Names → List Thing → Option Broken
told_of names ts = told (flat_map (breaks names) ts)

-- what is told of a program
unfoldable pub first_broken : Syntax → Option Broken
first_broken s = told_of (names_of s.items) (things_of (names_of s.items) s)
