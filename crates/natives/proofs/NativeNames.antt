-- Each is found by its spelling.
use Rattle.std.proofs.Common.{◌≡◌, ℕ, List, refl, ap, ◌∙◌, Some, ◌↔◌}
use Rattle.natives.specs.declared.native.Native.{Native}
use Rattle.natives.specs.declared.native.Native.TheVariants as natives
use Rattle.natives.specs.declared.native.TheConstants.{NATIVES}
use Rattle.natives.specs.Names.{native_spelling, native_named}
use Rattle.mql_spelling.proofs.Spelled.{found_by}

pub found : (native : Native) → native_named (native_spelling native) ≡ Some native
unfolding native_spelling native_named
found natives.StringLen = refl
found natives.StringSubstr = refl
found natives.StringFind = refl
found natives.StringReplace = refl
found natives.StringTrimLeft = refl
found natives.StringTrimRight = refl
found natives.StringToLower = refl
found natives.StringToUpper = refl
found natives.StringGetCharacter = refl
found natives.StringSetCharacter = refl
found natives.StringSplit = refl
found natives.StringCompare = refl
found natives.StringToInteger = refl
found natives.StringToDouble = refl
found natives.IntegerToString = refl
found natives.DoubleToString = refl
found natives.TimeToString = refl
found natives.CharToString = refl
found natives.ShortToString = refl
found natives.EnumToString = refl
found natives.StringFormat = refl
found natives.ArraySize = refl
found natives.ArrayRange = refl
found natives.ArrayResize = refl
found natives.ArrayFree = refl
found natives.ArrayInitialize = refl
found natives.ArrayCopy = refl
found natives.ArraySetAsSeries = refl
found natives.ArrayGetAsSeries = refl
found natives.ArraySort = refl
found natives.ArrayMaximum = refl
found natives.ArrayMinimum = refl
found natives.ArrayIsDynamic = refl
found natives.ZeroMemory = refl
found natives.MathAbs = refl
found natives.MathMax = refl
found natives.MathMin = refl
found natives.MathFloor = refl
found natives.MathCeil = refl
found natives.MathRound = refl
found natives.MathSqrt = refl
found natives.MathMod = refl
found natives.MathPow = refl
found natives.MathRand = refl
found natives.MathSrand = refl
found natives.MathIsValidNumber = refl
found natives.NormalizeDouble = refl
found natives.GetPointer = refl
found natives.CheckPointer = refl
found natives.Print = refl
found natives.PrintFormat = refl
found natives.Comment = refl
found natives.TimeCurrent = refl
found natives.TimeLocal = refl
found natives.TimeGMT = refl
found natives.TimeToStruct = refl
found natives.StructToTime = refl
found natives.ExpertRemove = refl
found natives.GetLastError = refl
found natives.ResetLastError = refl
found natives.Symbol = refl
found natives.Period = refl
found natives.IsStopped = refl
found natives.UninitializeReason = refl
found natives.MQLInfoInteger = refl
found natives.TesterStatistics = refl
found natives.AccountInfoDouble = refl
found natives.AccountInfoInteger = refl
found natives.AccountInfoString = refl
found natives.SymbolInfoDouble = refl
found natives.SymbolInfoInteger = refl
found natives.SymbolInfoTick = refl
found natives.ITime = refl
found natives.IOpen = refl
found natives.IHigh = refl
found natives.ILow = refl
found natives.IClose = refl
found natives.IVolume = refl
found natives.Bars = refl
found natives.CopyRates = refl
found natives.CopyTime = refl
found natives.CopyOpen = refl
found natives.CopyHigh = refl
found natives.CopyLow = refl
found natives.CopyClose = refl
found natives.CopyTickVolume = refl
found natives.IMA = refl
found natives.IATR = refl
found natives.IRSI = refl
found natives.CopyBuffer = refl
found natives.BarsCalculated = refl
found natives.OrderSend = refl
found natives.PositionsTotal = refl
found natives.PositionGetTicket = refl
found natives.PositionGetSymbol = refl
found natives.PositionSelect = refl
found natives.PositionSelectByTicket = refl
found natives.PositionGetDouble = refl
found natives.PositionGetInteger = refl
found natives.PositionGetString = refl
found natives.OrdersTotal = refl
found natives.OrderGetTicket = refl
found natives.OrderSelect = refl
found natives.OrderGetDouble = refl
found natives.OrderGetInteger = refl
found natives.OrderGetString = refl
found natives.HistorySelect = refl
found natives.HistoryDealsTotal = refl
found natives.HistoryDealGetTicket = refl
found natives.HistoryDealGetDouble = refl
found natives.HistoryDealGetInteger = refl
found natives.HistoryDealGetString = refl

-- a text is the name of one exactly where it is its spelling
pub by_spelling : (us : List ℕ) (native : Native) → (native_named us ≡ Some native) ↔ (us ≡ native_spelling native)
unfolding native_named
by_spelling us native = (found_by native_spelling NATIVES us native, λ e. ap native_named e ∙ found native)
