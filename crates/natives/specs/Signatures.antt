-- What the native functions take and give (MQL5 Reference; the chapters stand below). One line is one
-- function: where it is answered, its result, its parameters in order, and what it may set the last error to.
use Rattle.std.specs.Prelude.{ℕ, ◌+◌, ℤ, pos, negsuc, Bool, true, false, List, [], ◌∷◌, Some, None, is_some}
use Rattle.fx8.specs.declared.int_kind.IntKind.TheVariants as kind
use Rattle.natives.specs.declared.types.SimpleType.{SimpleType}
use Rattle.natives.specs.declared.types.SimpleType.TheVariants as simple
use Rattle.natives.specs.declared.types.Structure.TheVariants.{MqlDateTime, MqlRates, MqlTick, MqlTradeRequest, MqlTradeResult}
use Rattle.natives.specs.declared.types.Structure.{Structure}
use Rattle.natives.specs.declared.signature.Elements.{Elements}
use Rattle.natives.specs.declared.signature.Elements.TheVariants as elements
use Rattle.natives.specs.declared.signature.ParameterKind.{ParameterKind}
use Rattle.natives.specs.declared.signature.ParameterKind.TheVariants as parameter
use Rattle.natives.specs.declared.signature.Passing.{Passing}
use Rattle.natives.specs.declared.signature.Passing.TheVariants.{Value, Reference}
use Rattle.natives.specs.declared.signature.Parameter.{Parameter}
use Rattle.natives.specs.declared.signature.ResultType.{ResultType}
use Rattle.natives.specs.declared.signature.ResultType.TheVariants as results
use Rattle.natives.specs.declared.signature.Evaluation.{Evaluation}
use Rattle.natives.specs.declared.signature.Evaluation.TheVariants as evaluation
use Rattle.natives.specs.declared.signature.LastError.{LastError}
use Rattle.natives.specs.declared.signature.LastError.TheVariants as errors
use Rattle.natives.specs.declared.native.Native.{Native}
use Rattle.natives.specs.declared.native.Native.TheVariants as natives

-- what a native function takes and gives
pub record Signature : Type 0 where
  pub answered : Evaluation
  pub result : ResultType
  pub parameters : List Parameter
  pub may_set : List LastError

-- the types
abbrev bool : SimpleType
bool = simple.Integer kind.Bool

abbrev uchar : SimpleType
uchar = simple.Integer kind.Uchar

abbrev ushort : SimpleType
ushort = simple.Integer kind.Ushort

abbrev int : SimpleType
int = simple.Integer kind.Int

abbrev long : SimpleType
long = simple.Integer kind.Long

abbrev ulong : SimpleType
ulong = simple.Integer kind.Ulong

abbrev datetime : SimpleType
datetime = simple.Integer kind.Datetime

abbrev double : SimpleType
double = simple.Double

abbrev string : SimpleType
string = simple.String

-- a parameter that is read, and one that the function may change
abbrev read : ParameterKind → Parameter
read k = record { kind = k; passing = Value; default = None }

abbrev changed_kind : ParameterKind → Parameter
changed_kind k = record { kind = k; passing = Reference; default = None }

-- a value of a type, one that may be left out, and a variable of a type that the function may change
abbrev value : SimpleType → Parameter
value t = read (parameter.Simple t)

abbrev optional : SimpleType → ℤ → Parameter
optional t n = record { kind = parameter.Simple t; passing = Value; default = Some n }

abbrev changed : SimpleType → Parameter
changed t = changed_kind (parameter.Simple t)

-- structures and arrays
abbrev structure : Structure → Parameter
structure s = read (parameter.Structure s)

abbrev changed_structure : Structure → Parameter
changed_structure s = changed_kind (parameter.Structure s)

abbrev array : Elements → Parameter
array e = read (parameter.Array e)

abbrev changed_array : Elements → Parameter
changed_array e = changed_kind (parameter.Array e)

-- elements: of any type, of numbers, of the type of the array before or also numbers, of this type
abbrev any : Elements
any = elements.Any

abbrev numbers : Elements
numbers = elements.Numbers

abbrev matching : Elements
matching = elements.Matching

abbrev of : SimpleType → Elements
of t = elements.Simple t

abbrev structures : Structure → Elements
structures s = elements.Structures s

-- a number of the elements' type, one of the common type, and what is no number
abbrev number : Parameter
number = read parameter.Number

abbrev common : Parameter
common = read parameter.Common

abbrev enumeration : Parameter
enumeration = read parameter.Enumeration

abbrev object : Parameter
object = read parameter.Object

abbrev pointer : Parameter
pointer = read parameter.Pointer

abbrev changed_variable : Parameter
changed_variable = changed_kind parameter.Variable

-- any number of values
abbrev rest : Parameter
rest = read parameter.Rest

-- results
abbrev nothing : ResultType
nothing = results.Void

abbrev a : SimpleType → ResultType
a t = results.Simple t

abbrev common_number : ResultType
common_number = results.Common

abbrev to_object : ResultType
to_object = results.Pointer

-- last errors
abbrev invalid : LastError
invalid = errors.InvalidParameter

abbrev symbol : LastError
symbol = errors.UnknownSymbol

abbrev history : LastError
history = errors.HistoryNotFound

abbrev position : LastError
position = errors.PositionNotFound

abbrev order : LastError
order = errors.OrderNotFound

abbrev deal : LastError
deal = errors.DealNotFound

abbrev refused : LastError
refused = errors.TradeSendFailed

abbrev handle : LastError
handle = errors.WrongIndicatorHandle

-- functions by where they are answered: by their arguments alone, by the store, by the compiler, by the world
abbrev answered_by : Evaluation → ResultType → List Parameter → List LastError → Signature
answered_by e r ps es = record { answered = e; result = r; parameters = ps; may_set = es }

abbrev pure : ResultType → List Parameter → List LastError → Signature
pure = answered_by evaluation.Pure

abbrev by_store : ResultType → List Parameter → List LastError → Signature
by_store = answered_by evaluation.Store

abbrev by_compiler : ResultType → List Parameter → List LastError → Signature
by_compiler = answered_by evaluation.Compiler

abbrev by_world : ResultType → List Parameter → List LastError → Signature
by_world = answered_by evaluation.World

-- each function
unfoldable pub signature : Native → Signature
-- Strings: MQL5 Reference, String Functions; Conversion Functions
signature natives.StringLen = pure (a int) (value string ∷ []) []
signature natives.StringSubstr =
    pure (a string) (value string ∷ value int ∷ optional int (negsuc 0) ∷ []) (invalid ∷ [])
signature natives.StringFind =
    pure (a int) (value string ∷ value string ∷ optional int (pos 0) ∷ []) (invalid ∷ [])
signature natives.StringReplace = pure (a int) (changed string ∷ value string ∷ value string ∷ []) []
signature natives.StringTrimLeft = pure (a int) (changed string ∷ []) []
signature natives.StringTrimRight = pure (a int) (changed string ∷ []) []
signature natives.StringToLower = pure (a bool) (changed string ∷ []) []
signature natives.StringToUpper = pure (a bool) (changed string ∷ []) []
signature natives.StringGetCharacter = pure (a ushort) (value string ∷ value int ∷ []) (invalid ∷ [])
signature natives.StringSetCharacter =
    pure (a bool) (changed string ∷ value int ∷ value ushort ∷ []) (invalid ∷ [])
signature natives.StringSplit =
    pure (a int) (value string ∷ value ushort ∷ changed_array (of string) ∷ []) (invalid ∷ [])
signature natives.StringCompare = pure (a int) (value string ∷ value string ∷ optional bool (pos 1) ∷ []) []
signature natives.StringToInteger = pure (a long) (value string ∷ []) []
signature natives.StringToDouble = pure (a double) (value string ∷ []) []
signature natives.IntegerToString =
    pure (a string) (value long ∷ optional int (pos 0) ∷ optional ushort (pos 32) ∷ []) []
signature natives.DoubleToString = pure (a string) (value double ∷ optional int (pos 8) ∷ []) []
signature natives.TimeToString = pure (a string) (value datetime ∷ optional int (pos 3) ∷ []) (invalid ∷ [])
signature natives.CharToString = pure (a string) (value uchar ∷ []) []
signature natives.ShortToString = pure (a string) (value ushort ∷ []) []
signature natives.EnumToString = by_compiler (a string) (enumeration ∷ []) []
signature natives.StringFormat = pure (a string) (value string ∷ rest ∷ []) []
-- Arrays: MQL5 Reference, Array Functions; Common Functions, ZeroMemory
signature natives.ArraySize = pure (a int) (array any ∷ []) []
signature natives.ArrayRange = by_store (a int) (array any ∷ value int ∷ []) (invalid ∷ [])
signature natives.ArrayResize =
    pure (a int) (changed_array any ∷ value int ∷ optional int (pos 0) ∷ []) (invalid ∷ [])
signature natives.ArrayFree = pure nothing (changed_array any ∷ []) (invalid ∷ [])
signature natives.ArrayInitialize = pure (a int) (changed_array numbers ∷ number ∷ []) []
signature natives.ArrayCopy =
    pure (a int)
    (changed_array any ∷ array matching ∷ optional int (pos 0) ∷ optional int (pos 0) ∷
    optional int (negsuc 0) ∷ [])
    (invalid ∷ [])
signature natives.ArraySetAsSeries = by_store (a bool) (changed_array any ∷ value bool ∷ []) []
signature natives.ArrayGetAsSeries = by_store (a bool) (array any ∷ []) []
signature natives.ArraySort = pure (a bool) (changed_array numbers ∷ []) []
signature natives.ArrayMaximum =
    pure (a int) (array numbers ∷ optional int (pos 0) ∷ optional int (negsuc 0) ∷ []) (invalid ∷ [])
signature natives.ArrayMinimum =
    pure (a int) (array numbers ∷ optional int (pos 0) ∷ optional int (negsuc 0) ∷ []) (invalid ∷ [])
signature natives.ArrayIsDynamic = by_store (a bool) (array any ∷ []) []
signature natives.ZeroMemory = by_store nothing (changed_variable ∷ []) []
-- Maths: MQL5 Reference, Math Functions; Conversion Functions, NormalizeDouble
signature natives.MathAbs = pure common_number (common ∷ []) []
signature natives.MathMax = pure common_number (common ∷ common ∷ []) []
signature natives.MathMin = pure common_number (common ∷ common ∷ []) []
signature natives.MathFloor = pure (a double) (value double ∷ []) []
signature natives.MathCeil = pure (a double) (value double ∷ []) []
signature natives.MathRound = pure (a double) (value double ∷ []) []
signature natives.MathSqrt = pure (a double) (value double ∷ []) []
signature natives.MathMod = pure (a double) (value double ∷ value double ∷ []) []
signature natives.MathPow = pure (a double) (value double ∷ value double ∷ []) []
signature natives.MathRand = by_world (a int) [] []
signature natives.MathSrand = by_world nothing (value int ∷ []) []
signature natives.MathIsValidNumber = pure (a bool) (value double ∷ []) []
signature natives.NormalizeDouble = pure (a double) (value double ∷ value int ∷ []) []
-- Objects: MQL5 Reference, Common Functions, GetPointer, CheckPointer
signature natives.GetPointer = by_store to_object (object ∷ []) []
signature natives.CheckPointer = by_store (a int) (pointer ∷ []) []
-- Program: MQL5 Reference, Common Functions; Date and Time; Checkup
signature natives.Print = by_world nothing (rest ∷ []) []
signature natives.PrintFormat = by_world nothing (value string ∷ rest ∷ []) []
signature natives.Comment = pure nothing (rest ∷ []) []
signature natives.TimeCurrent = by_world (a datetime) [] []
signature natives.TimeLocal = by_world (a datetime) [] []
signature natives.TimeGMT = by_world (a datetime) [] []
signature natives.TimeToStruct =
    pure (a bool) (value datetime ∷ changed_structure MqlDateTime ∷ []) (invalid ∷ [])
signature natives.StructToTime = pure (a datetime) (structure MqlDateTime ∷ []) (invalid ∷ [])
signature natives.ExpertRemove = by_world nothing [] []
signature natives.GetLastError = by_world (a int) [] []
signature natives.ResetLastError = by_world nothing [] []
signature natives.Symbol = by_world (a string) [] []
signature natives.Period = by_world (a int) [] []
signature natives.IsStopped = pure (a bool) [] []
signature natives.UninitializeReason = by_world (a int) [] []
signature natives.MQLInfoInteger = by_world (a int) (value int ∷ []) (invalid ∷ [])
signature natives.TesterStatistics = by_world (a double) (value int ∷ []) (invalid ∷ [])
-- Account and symbol: MQL5 Reference, Account Information; Market Info
signature natives.AccountInfoDouble = by_world (a double) (value int ∷ []) (invalid ∷ [])
signature natives.AccountInfoInteger = by_world (a long) (value int ∷ []) (invalid ∷ [])
signature natives.AccountInfoString = by_world (a string) (value int ∷ []) (invalid ∷ [])
signature natives.SymbolInfoDouble =
    by_world (a double) (value string ∷ value int ∷ []) (invalid ∷ symbol ∷ [])
signature natives.SymbolInfoInteger =
    by_world (a long) (value string ∷ value int ∷ []) (invalid ∷ symbol ∷ [])
signature natives.SymbolInfoTick =
    by_world (a bool) (value string ∷ changed_structure MqlTick ∷ []) (symbol ∷ [])
-- Series: MQL5 Reference, Timeseries and Indicators Access; Technical Indicators
signature natives.ITime =
    by_world (a datetime) (value string ∷ value int ∷ value int ∷ []) (invalid ∷ symbol ∷ [])
signature natives.IOpen =
    by_world (a double) (value string ∷ value int ∷ value int ∷ []) (invalid ∷ symbol ∷ [])
signature natives.IHigh =
    by_world (a double) (value string ∷ value int ∷ value int ∷ []) (invalid ∷ symbol ∷ [])
signature natives.ILow =
    by_world (a double) (value string ∷ value int ∷ value int ∷ []) (invalid ∷ symbol ∷ [])
signature natives.IClose =
    by_world (a double) (value string ∷ value int ∷ value int ∷ []) (invalid ∷ symbol ∷ [])
signature natives.IVolume =
    by_world (a long) (value string ∷ value int ∷ value int ∷ []) (invalid ∷ symbol ∷ [])
signature natives.Bars = by_world (a int) (value string ∷ value int ∷ []) (invalid ∷ symbol ∷ [])
signature natives.CopyRates =
    by_world (a int)
    (value string ∷ value int ∷ value int ∷ value int ∷ changed_array (structures MqlRates) ∷ [])
    (invalid ∷ symbol ∷ history ∷ [])
signature natives.CopyTime =
    by_world (a int)
    (value string ∷ value int ∷ value int ∷ value int ∷ changed_array (of datetime) ∷ [])
    (invalid ∷ symbol ∷ history ∷ [])
signature natives.CopyOpen =
    by_world (a int)
    (value string ∷ value int ∷ value int ∷ value int ∷ changed_array (of double) ∷ [])
    (invalid ∷ symbol ∷ history ∷ [])
signature natives.CopyHigh =
    by_world (a int)
    (value string ∷ value int ∷ value int ∷ value int ∷ changed_array (of double) ∷ [])
    (invalid ∷ symbol ∷ history ∷ [])
signature natives.CopyLow =
    by_world (a int)
    (value string ∷ value int ∷ value int ∷ value int ∷ changed_array (of double) ∷ [])
    (invalid ∷ symbol ∷ history ∷ [])
signature natives.CopyClose =
    by_world (a int)
    (value string ∷ value int ∷ value int ∷ value int ∷ changed_array (of double) ∷ [])
    (invalid ∷ symbol ∷ history ∷ [])
signature natives.CopyTickVolume =
    by_world (a int)
    (value string ∷ value int ∷ value int ∷ value int ∷ changed_array (of long) ∷ [])
    (invalid ∷ symbol ∷ history ∷ [])
signature natives.IMA =
    by_world (a int)
    (value string ∷ value int ∷ value int ∷ value int ∷ value int ∷ value int ∷ [])
    (invalid ∷ symbol ∷ [])
signature natives.IATR = by_world (a int) (value string ∷ value int ∷ value int ∷ []) (invalid ∷ symbol ∷ [])
signature natives.IRSI =
    by_world (a int) (value string ∷ value int ∷ value int ∷ value int ∷ []) (invalid ∷ symbol ∷ [])
signature natives.CopyBuffer =
    by_world (a int)
    (value int ∷ value int ∷ value int ∷ value int ∷ changed_array (of double) ∷ [])
    (invalid ∷ history ∷ handle ∷ [])
signature natives.BarsCalculated = by_world (a int) (value int ∷ []) (handle ∷ [])
-- Trade: MQL5 Reference, Trade Functions
signature natives.OrderSend =
    by_world (a bool) (structure MqlTradeRequest ∷ changed_structure MqlTradeResult ∷ []) (refused ∷ [])
signature natives.PositionsTotal = by_world (a int) [] []
signature natives.PositionGetTicket = by_world (a ulong) (value int ∷ []) (invalid ∷ position ∷ [])
signature natives.PositionGetSymbol = by_world (a string) (value int ∷ []) (invalid ∷ position ∷ [])
signature natives.PositionSelect = by_world (a bool) (value string ∷ []) (symbol ∷ position ∷ [])
signature natives.PositionSelectByTicket = by_world (a bool) (value ulong ∷ []) (position ∷ [])
signature natives.PositionGetDouble = by_world (a double) (value int ∷ []) (invalid ∷ position ∷ [])
signature natives.PositionGetInteger = by_world (a long) (value int ∷ []) (invalid ∷ position ∷ [])
signature natives.PositionGetString = by_world (a string) (value int ∷ []) (invalid ∷ position ∷ [])
signature natives.OrdersTotal = by_world (a int) [] []
signature natives.OrderGetTicket = by_world (a ulong) (value int ∷ []) (invalid ∷ order ∷ [])
signature natives.OrderSelect = by_world (a bool) (value ulong ∷ []) (order ∷ [])
signature natives.OrderGetDouble = by_world (a double) (value int ∷ []) (invalid ∷ order ∷ [])
signature natives.OrderGetInteger = by_world (a long) (value int ∷ []) (invalid ∷ order ∷ [])
signature natives.OrderGetString = by_world (a string) (value int ∷ []) (invalid ∷ order ∷ [])
signature natives.HistorySelect = by_world (a bool) (value datetime ∷ value datetime ∷ []) []
signature natives.HistoryDealsTotal = by_world (a int) [] []
signature natives.HistoryDealGetTicket = by_world (a ulong) (value int ∷ []) (invalid ∷ deal ∷ [])
signature natives.HistoryDealGetDouble =
    by_world (a double) (value ulong ∷ value int ∷ []) (invalid ∷ deal ∷ [])
signature natives.HistoryDealGetInteger =
    by_world (a long) (value ulong ∷ value int ∷ []) (invalid ∷ deal ∷ [])
signature natives.HistoryDealGetString =
    by_world (a string) (value ulong ∷ value int ∷ []) (invalid ∷ deal ∷ [])

-- the number that the last error is set to (MQL5 Reference, Codes of Errors and Warnings, Runtime Errors)
unfoldable pub error_number : LastError → ℕ
error_number errors.InvalidParameter = 4003
error_number errors.UnknownSymbol = 4301
error_number errors.HistoryNotFound = 4401
error_number errors.PositionNotFound = 4753
error_number errors.OrderNotFound = 4754
error_number errors.DealNotFound = 4755
error_number errors.TradeSendFailed = 4756
error_number errors.WrongIndicatorHandle = 4807

-- a parameter must have an argument: it has no default and is not the last, of any number of values
abbrev pub is_rest : ParameterKind → Bool
is_rest parameter.Rest = true
is_rest _ = false

abbrev pub may_lack : Parameter → Bool
may_lack p = elim (is_rest p.kind) [ true ↦ true | false ↦ is_some p.default ]

-- the least number of arguments
unfoldable pub least_arguments : List Parameter → ℕ
least_arguments [] = 0
least_arguments (p ∷ ps) = elim (may_lack p) [ true ↦ least_arguments ps | false ↦ 1 + least_arguments ps ]

-- any number of arguments may follow the others
unfoldable pub takes_more : List Parameter → Bool
takes_more [] = false
takes_more (p ∷ ps) = elim (is_rest p.kind) [ true ↦ true | false ↦ takes_more ps ]
