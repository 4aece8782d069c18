-- The native functions: their names, short names and numbers (MQL5 Reference; the chapters stand below).
use Rattle.std.specs.Prelude.{◌≡◌, ℕ, List, codes, Option, Some, None, slice_get, ◌⊎◌}
use Rattle.natives.specs.declared.native.Native.{Native}
use Rattle.natives.specs.declared.native.Native.TheVariants as natives
use Rattle.natives.specs.declared.native.TheConstants.{NATIVES}
use Rattle.natives.specs.declared.short_name.ShortName.{ShortName}
use Rattle.natives.specs.declared.short_name.ShortName.TheVariants as shorts
use Rattle.natives.specs.declared.short_name.TheConstants.{SHORTS}
use Rattle.mql_spelling.specs.Spelled.{spelled_among}

-- how it is spelled
unfoldable pub native_spelling : Native → List ℕ
-- Strings: MQL5 Reference, String Functions; Conversion Functions
native_spelling natives.StringLen = codes "StringLen"
native_spelling natives.StringSubstr = codes "StringSubstr"
native_spelling natives.StringFind = codes "StringFind"
native_spelling natives.StringReplace = codes "StringReplace"
native_spelling natives.StringTrimLeft = codes "StringTrimLeft"
native_spelling natives.StringTrimRight = codes "StringTrimRight"
native_spelling natives.StringToLower = codes "StringToLower"
native_spelling natives.StringToUpper = codes "StringToUpper"
native_spelling natives.StringGetCharacter = codes "StringGetCharacter"
native_spelling natives.StringSetCharacter = codes "StringSetCharacter"
native_spelling natives.StringSplit = codes "StringSplit"
native_spelling natives.StringCompare = codes "StringCompare"
native_spelling natives.StringToInteger = codes "StringToInteger"
native_spelling natives.StringToDouble = codes "StringToDouble"
native_spelling natives.IntegerToString = codes "IntegerToString"
native_spelling natives.DoubleToString = codes "DoubleToString"
native_spelling natives.TimeToString = codes "TimeToString"
native_spelling natives.CharToString = codes "CharToString"
native_spelling natives.ShortToString = codes "ShortToString"
native_spelling natives.EnumToString = codes "EnumToString"
native_spelling natives.StringFormat = codes "StringFormat"
-- Arrays: MQL5 Reference, Array Functions; Common Functions, ZeroMemory
native_spelling natives.ArraySize = codes "ArraySize"
native_spelling natives.ArrayRange = codes "ArrayRange"
native_spelling natives.ArrayResize = codes "ArrayResize"
native_spelling natives.ArrayFree = codes "ArrayFree"
native_spelling natives.ArrayInitialize = codes "ArrayInitialize"
native_spelling natives.ArrayCopy = codes "ArrayCopy"
native_spelling natives.ArraySetAsSeries = codes "ArraySetAsSeries"
native_spelling natives.ArrayGetAsSeries = codes "ArrayGetAsSeries"
native_spelling natives.ArraySort = codes "ArraySort"
native_spelling natives.ArrayMaximum = codes "ArrayMaximum"
native_spelling natives.ArrayMinimum = codes "ArrayMinimum"
native_spelling natives.ArrayIsDynamic = codes "ArrayIsDynamic"
native_spelling natives.ZeroMemory = codes "ZeroMemory"
-- Maths: MQL5 Reference, Math Functions; Conversion Functions, NormalizeDouble
native_spelling natives.MathAbs = codes "MathAbs"
native_spelling natives.MathMax = codes "MathMax"
native_spelling natives.MathMin = codes "MathMin"
native_spelling natives.MathFloor = codes "MathFloor"
native_spelling natives.MathCeil = codes "MathCeil"
native_spelling natives.MathRound = codes "MathRound"
native_spelling natives.MathSqrt = codes "MathSqrt"
native_spelling natives.MathMod = codes "MathMod"
native_spelling natives.MathPow = codes "MathPow"
native_spelling natives.MathRand = codes "MathRand"
native_spelling natives.MathSrand = codes "MathSrand"
native_spelling natives.MathIsValidNumber = codes "MathIsValidNumber"
native_spelling natives.NormalizeDouble = codes "NormalizeDouble"
-- Objects: MQL5 Reference, Common Functions, GetPointer, CheckPointer
native_spelling natives.GetPointer = codes "GetPointer"
native_spelling natives.CheckPointer = codes "CheckPointer"
-- Program: MQL5 Reference, Common Functions; Date and Time; Checkup
native_spelling natives.Print = codes "Print"
native_spelling natives.PrintFormat = codes "PrintFormat"
native_spelling natives.Comment = codes "Comment"
native_spelling natives.TimeCurrent = codes "TimeCurrent"
native_spelling natives.TimeLocal = codes "TimeLocal"
native_spelling natives.TimeGMT = codes "TimeGMT"
native_spelling natives.TimeToStruct = codes "TimeToStruct"
native_spelling natives.StructToTime = codes "StructToTime"
native_spelling natives.ExpertRemove = codes "ExpertRemove"
native_spelling natives.GetLastError = codes "GetLastError"
native_spelling natives.ResetLastError = codes "ResetLastError"
native_spelling natives.Symbol = codes "Symbol"
native_spelling natives.Period = codes "Period"
native_spelling natives.IsStopped = codes "IsStopped"
native_spelling natives.UninitializeReason = codes "UninitializeReason"
native_spelling natives.MQLInfoInteger = codes "MQLInfoInteger"
native_spelling natives.TesterStatistics = codes "TesterStatistics"
-- Account and symbol: MQL5 Reference, Account Information; Market Info
native_spelling natives.AccountInfoDouble = codes "AccountInfoDouble"
native_spelling natives.AccountInfoInteger = codes "AccountInfoInteger"
native_spelling natives.AccountInfoString = codes "AccountInfoString"
native_spelling natives.SymbolInfoDouble = codes "SymbolInfoDouble"
native_spelling natives.SymbolInfoInteger = codes "SymbolInfoInteger"
native_spelling natives.SymbolInfoTick = codes "SymbolInfoTick"
-- Series: MQL5 Reference, Timeseries and Indicators Access; Technical Indicators
native_spelling natives.ITime = codes "iTime"
native_spelling natives.IOpen = codes "iOpen"
native_spelling natives.IHigh = codes "iHigh"
native_spelling natives.ILow = codes "iLow"
native_spelling natives.IClose = codes "iClose"
native_spelling natives.IVolume = codes "iVolume"
native_spelling natives.Bars = codes "Bars"
native_spelling natives.CopyRates = codes "CopyRates"
native_spelling natives.CopyTime = codes "CopyTime"
native_spelling natives.CopyOpen = codes "CopyOpen"
native_spelling natives.CopyHigh = codes "CopyHigh"
native_spelling natives.CopyLow = codes "CopyLow"
native_spelling natives.CopyClose = codes "CopyClose"
native_spelling natives.CopyTickVolume = codes "CopyTickVolume"
native_spelling natives.IMA = codes "iMA"
native_spelling natives.IATR = codes "iATR"
native_spelling natives.IRSI = codes "iRSI"
native_spelling natives.CopyBuffer = codes "CopyBuffer"
native_spelling natives.BarsCalculated = codes "BarsCalculated"
-- Trade: MQL5 Reference, Trade Functions
native_spelling natives.OrderSend = codes "OrderSend"
native_spelling natives.PositionsTotal = codes "PositionsTotal"
native_spelling natives.PositionGetTicket = codes "PositionGetTicket"
native_spelling natives.PositionGetSymbol = codes "PositionGetSymbol"
native_spelling natives.PositionSelect = codes "PositionSelect"
native_spelling natives.PositionSelectByTicket = codes "PositionSelectByTicket"
native_spelling natives.PositionGetDouble = codes "PositionGetDouble"
native_spelling natives.PositionGetInteger = codes "PositionGetInteger"
native_spelling natives.PositionGetString = codes "PositionGetString"
native_spelling natives.OrdersTotal = codes "OrdersTotal"
native_spelling natives.OrderGetTicket = codes "OrderGetTicket"
native_spelling natives.OrderSelect = codes "OrderSelect"
native_spelling natives.OrderGetDouble = codes "OrderGetDouble"
native_spelling natives.OrderGetInteger = codes "OrderGetInteger"
native_spelling natives.OrderGetString = codes "OrderGetString"
native_spelling natives.HistorySelect = codes "HistorySelect"
native_spelling natives.HistoryDealsTotal = codes "HistoryDealsTotal"
native_spelling natives.HistoryDealGetTicket = codes "HistoryDealGetTicket"
native_spelling natives.HistoryDealGetDouble = codes "HistoryDealGetDouble"
native_spelling natives.HistoryDealGetInteger = codes "HistoryDealGetInteger"
native_spelling natives.HistoryDealGetString = codes "HistoryDealGetString"

-- the one that is spelled so: of two no spelling is one, and `NATIVES` is each of them
unfoldable pub native_named : List ℕ → Option Native
native_named us = spelled_among native_spelling NATIVES us

-- how it is spelled
unfoldable pub short_spelling : ShortName → List ℕ
-- Math Functions; Common Functions, PrintFormat
short_spelling shorts.Fabs = codes "fabs"
short_spelling shorts.Fmax = codes "fmax"
short_spelling shorts.Fmin = codes "fmin"
short_spelling shorts.Floor = codes "floor"
short_spelling shorts.Ceil = codes "ceil"
short_spelling shorts.Round = codes "round"
short_spelling shorts.Sqrt = codes "sqrt"
short_spelling shorts.Fmod = codes "fmod"
short_spelling shorts.Pow = codes "pow"
short_spelling shorts.Rand = codes "rand"
short_spelling shorts.Srand = codes "srand"
short_spelling shorts.Printf = codes "printf"

-- the one that is spelled so: of two no spelling is one, and `SHORTS` is each of them
unfoldable pub short_named : List ℕ → Option ShortName
short_named us = spelled_among short_spelling SHORTS us

-- the function that a short name means
abbrev pub native_of_short : ShortName → Native
native_of_short shorts.Fabs = natives.MathAbs
native_of_short shorts.Fmax = natives.MathMax
native_of_short shorts.Fmin = natives.MathMin
native_of_short shorts.Floor = natives.MathFloor
native_of_short shorts.Ceil = natives.MathCeil
native_of_short shorts.Round = natives.MathRound
native_of_short shorts.Sqrt = natives.MathSqrt
native_of_short shorts.Fmod = natives.MathMod
native_of_short shorts.Pow = natives.MathPow
native_of_short shorts.Rand = natives.MathRand
native_of_short shorts.Srand = natives.MathSrand
native_of_short shorts.Printf = natives.PrintFormat

-- the function of a short name, where there is one
abbrev pub of_short : Option ShortName → Option Native
of_short None = None
of_short (Some short) = Some (native_of_short short)

-- the one by its full name, else the one by a short name
abbrev pub either_name : Option Native → Option Native → Option Native
either_name None other = other
either_name (Some native) other = Some native

-- the function that a name means
unfoldable pub named : List ℕ → Option Native
named us = either_name (native_named us) (of_short (short_named us))

-- a text is a name of a function: its full name or one of its short ones
abbrev pub IsNameOf : Native → List ℕ → Type 0
IsNameOf native us =
    (us ≡ native_spelling native)
    ⊎ ((short : ShortName) × (us ≡ short_spelling short) × (native_of_short short ≡ native))

-- the number of a function: its place in this list, from 0 on (own)
unfoldable pub native_number : Native → ℕ
native_number natives.StringLen = 0
native_number natives.StringSubstr = 1
native_number natives.StringFind = 2
native_number natives.StringReplace = 3
native_number natives.StringTrimLeft = 4
native_number natives.StringTrimRight = 5
native_number natives.StringToLower = 6
native_number natives.StringToUpper = 7
native_number natives.StringGetCharacter = 8
native_number natives.StringSetCharacter = 9
native_number natives.StringSplit = 10
native_number natives.StringCompare = 11
native_number natives.StringToInteger = 12
native_number natives.StringToDouble = 13
native_number natives.IntegerToString = 14
native_number natives.DoubleToString = 15
native_number natives.TimeToString = 16
native_number natives.CharToString = 17
native_number natives.ShortToString = 18
native_number natives.EnumToString = 19
native_number natives.StringFormat = 20
native_number natives.ArraySize = 21
native_number natives.ArrayRange = 22
native_number natives.ArrayResize = 23
native_number natives.ArrayFree = 24
native_number natives.ArrayInitialize = 25
native_number natives.ArrayCopy = 26
native_number natives.ArraySetAsSeries = 27
native_number natives.ArrayGetAsSeries = 28
native_number natives.ArraySort = 29
native_number natives.ArrayMaximum = 30
native_number natives.ArrayMinimum = 31
native_number natives.ArrayIsDynamic = 32
native_number natives.ZeroMemory = 33
native_number natives.MathAbs = 34
native_number natives.MathMax = 35
native_number natives.MathMin = 36
native_number natives.MathFloor = 37
native_number natives.MathCeil = 38
native_number natives.MathRound = 39
native_number natives.MathSqrt = 40
native_number natives.MathMod = 41
native_number natives.MathPow = 42
native_number natives.MathRand = 43
native_number natives.MathSrand = 44
native_number natives.MathIsValidNumber = 45
native_number natives.NormalizeDouble = 46
native_number natives.GetPointer = 47
native_number natives.CheckPointer = 48
native_number natives.Print = 49
native_number natives.PrintFormat = 50
native_number natives.Comment = 51
native_number natives.TimeCurrent = 52
native_number natives.TimeLocal = 53
native_number natives.TimeGMT = 54
native_number natives.TimeToStruct = 55
native_number natives.StructToTime = 56
native_number natives.ExpertRemove = 57
native_number natives.GetLastError = 58
native_number natives.ResetLastError = 59
native_number natives.Symbol = 60
native_number natives.Period = 61
native_number natives.IsStopped = 62
native_number natives.UninitializeReason = 63
native_number natives.MQLInfoInteger = 64
native_number natives.TesterStatistics = 65
native_number natives.AccountInfoDouble = 66
native_number natives.AccountInfoInteger = 67
native_number natives.AccountInfoString = 68
native_number natives.SymbolInfoDouble = 69
native_number natives.SymbolInfoInteger = 70
native_number natives.SymbolInfoTick = 71
native_number natives.ITime = 72
native_number natives.IOpen = 73
native_number natives.IHigh = 74
native_number natives.ILow = 75
native_number natives.IClose = 76
native_number natives.IVolume = 77
native_number natives.Bars = 78
native_number natives.CopyRates = 79
native_number natives.CopyTime = 80
native_number natives.CopyOpen = 81
native_number natives.CopyHigh = 82
native_number natives.CopyLow = 83
native_number natives.CopyClose = 84
native_number natives.CopyTickVolume = 85
native_number natives.IMA = 86
native_number natives.IATR = 87
native_number natives.IRSI = 88
native_number natives.CopyBuffer = 89
native_number natives.BarsCalculated = 90
native_number natives.OrderSend = 91
native_number natives.PositionsTotal = 92
native_number natives.PositionGetTicket = 93
native_number natives.PositionGetSymbol = 94
native_number natives.PositionSelect = 95
native_number natives.PositionSelectByTicket = 96
native_number natives.PositionGetDouble = 97
native_number natives.PositionGetInteger = 98
native_number natives.PositionGetString = 99
native_number natives.OrdersTotal = 100
native_number natives.OrderGetTicket = 101
native_number natives.OrderSelect = 102
native_number natives.OrderGetDouble = 103
native_number natives.OrderGetInteger = 104
native_number natives.OrderGetString = 105
native_number natives.HistorySelect = 106
native_number natives.HistoryDealsTotal = 107
native_number natives.HistoryDealGetTicket = 108
native_number natives.HistoryDealGetDouble = 109
native_number natives.HistoryDealGetInteger = 110
native_number natives.HistoryDealGetString = 111

-- the function of a number: `NATIVES` is each of them in order
unfoldable pub native_at : ℕ → Option Native
native_at number = slice_get NATIVES number
