-- Calls that need an account or a market (MQL5 Reference, Account Information; Getting Market Information;
-- Timeseries and Indicators Access; Technical Indicators; Trade Functions; TesterStatistics). Which of them are
-- refused, and by which rule, is our own.
use Rattle.std.specs.Prelude.{ℕ, nat_le, Bool, true, false, not, ◌&&◌, ◌||◌, List, [], Option, Some, None, is_none, if◌then◌else◌}
use Rattle.natives.specs.declared.native.Native.{Native}
use Rattle.natives.specs.declared.native.Native.TheVariants as native
use Rattle.natives.specs.declared.predefined.Predefined.{Predefined}
use Rattle.natives.specs.declared.predefined.Predefined.TheVariants as predefined
use Rattle.natives.specs.Names.{native_number, named}
use Rattle.natives.specs.Structures.{predefined_named}
use Rattle.mql_syntax.specs.declared.value.Operation.{Operation}
use Rattle.mql_syntax.specs.declared.value.Operation.TheVariants as operation
use Rattle.mql_syntax.specs.declared.declaration.Syntax.{Syntax}
use Rattle.mql_names.specs.declared.fault.Broken.{Broken}
use Rattle.mql_names.specs.Faults.{break_if}
use Rattle.mql_names.specs.Scopes.{Name, is_among}
use Rattle.mql_names.specs.Types.{Names}
use Rattle.mql_names.specs.Meanings.{names_of}
use Rattle.mql_walk.specs.Things.{Thing, things_of, told_by}
use Rattle.mql_walk.specs.Things as thing

-- a function of an account or a market: `TesterStatistics` and all those behind it by number, which are the
-- functions of the account and the symbol, of series, and of trade
abbrev pub of_market : Option Native → Bool
of_market None = false
of_market (Some n) = nat_le (native_number native.TesterStatistics) (native_number n)

-- `_Point` and `_Digits` are `SymbolInfoDouble` and `SymbolInfoInteger` of the chart's symbol
abbrev pub reads_symbol : Option Predefined → Bool
reads_symbol (Some predefined.Point) = true
reads_symbol (Some predefined.Digits) = true
reads_symbol _ = false

-- a name of the language that needs an account or a market
unfoldable pub native_needs : Name → Bool
native_needs x = of_market (named x) || reads_symbol (predefined_named x)

-- a name that does so in a program: its own names and the locals in force hide those of the language
unfoldable pub needs_market : Names → List Name → Name → Bool
needs_market names locals x = native_needs x && (is_none (names x) && not (is_among x locals))

-- a value that does so: a name
abbrev pub value_needs : Names → List Name → Operation → Bool
value_needs names locals (operation.Name x) = needs_market names locals x
value_needs names locals _ = false

-- 2 an account or a market is needed
abbrev pub market_calls : Names → Thing → List Broken
market_calls names (thing.value locals p o) = break_if (value_needs names locals o) 2 p
market_calls names _ = []

-- the first of them in the order of tokens
unfoldable pub first_market_call : Syntax → Option Broken
first_market_call s = told_by (market_calls (names_of s.items)) (things_of s)
