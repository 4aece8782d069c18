-- Each native function is told by its number, and by each of its names.
use Rattle.std.proofs.Common.{◌≡◌, ℕ, zero, suc, ◌+◌, Bool, true, false, ◌&&◌, nat_eq, List, [], ◌∷◌, Option, Some, None, slice_get, refl, ap, ◌∙◌, sym, ◌↔◌, ◌⊎◌, inl, inr, arith}
use Rattle.natives.specs.declared.native.Native.{Native}
use Rattle.natives.specs.declared.native.Native.TheVariants as natives
use Rattle.natives.specs.declared.native.TheConstants.{NATIVES}
use Rattle.natives.specs.declared.short_name.ShortName.{ShortName}
use Rattle.natives.specs.declared.short_name.ShortName.TheVariants as shorts
use Rattle.natives.specs.declared.short_name.TheConstants.{SHORTS}
use Rattle.natives.specs.Names.{native_spelling, native_number, native_named, native_at, short_spelling, short_named, native_of_short, of_short, either_name, named, IsNameOf}
use Rattle.natives.proofs.NativeNames.{by_spelling}
use Rattle.natives.proofs.ShortNames.{by_spelling as short_by_spelling}

-- the functions of a list have the numbers from one on
abbrev numbered : ℕ → List Native → Bool
numbered k [] = true
numbered k (n ∷ ns) = nat_eq (native_number n) k && numbered (suc k) ns

in_order : numbered 0 NATIVES ≡ true
unfolding native_number
in_order = refl

and_both : (a b : Bool) → (a && b) ≡ true → (a ≡ true) × (b ≡ true)
and_both true b h = (refl, h)
and_both false b h = absurd (let q : false ≡ true = h in cc)

eq_same : (a b : ℕ) → nat_eq a b ≡ true → a ≡ b
eq_same a b h = grind arith

place_number : (ns : List Native) (j k : ℕ) (n : Native) → numbered j ns ≡ true → slice_get ns k ≡ Some n → native_number n ≡ j + k
place_number [] j k n h g = absurd (let q : ◌≡◌ {A = Option Native} None (Some n) = g in cc)
place_number (m ∷ ns) j zero n h g =
    let two = and_both (nat_eq (native_number m) j) (numbered (suc j) ns) h in
    let same : m ≡ n = cc in
    let e : native_number m ≡ j = eq_same (native_number m) j two.0 in
    let z : j ≡ j + 0 = omega arith in ap native_number (sym same) ∙ e ∙ z
place_number (m ∷ ns) j (suc k) n h g =
    let two = and_both (nat_eq (native_number m) j) (numbered (suc j) ns) h in
    let z : suc j + k ≡ j + suc k = omega arith in place_number ns (suc j) k n two.1 g ∙ z

there : (n : Native) → native_at (native_number n) ≡ Some n
unfolding native_number native_at
there natives.StringLen = refl
there natives.StringSubstr = refl
there natives.StringFind = refl
there natives.StringReplace = refl
there natives.StringTrimLeft = refl
there natives.StringTrimRight = refl
there natives.StringToLower = refl
there natives.StringToUpper = refl
there natives.StringGetCharacter = refl
there natives.StringSetCharacter = refl
there natives.StringSplit = refl
there natives.StringCompare = refl
there natives.StringToInteger = refl
there natives.StringToDouble = refl
there natives.IntegerToString = refl
there natives.DoubleToString = refl
there natives.TimeToString = refl
there natives.CharToString = refl
there natives.ShortToString = refl
there natives.EnumToString = refl
there natives.StringFormat = refl
there natives.ArraySize = refl
there natives.ArrayRange = refl
there natives.ArrayResize = refl
there natives.ArrayFree = refl
there natives.ArrayInitialize = refl
there natives.ArrayCopy = refl
there natives.ArraySetAsSeries = refl
there natives.ArrayGetAsSeries = refl
there natives.ArraySort = refl
there natives.ArrayMaximum = refl
there natives.ArrayMinimum = refl
there natives.ArrayIsDynamic = refl
there natives.ZeroMemory = refl
there natives.MathAbs = refl
there natives.MathMax = refl
there natives.MathMin = refl
there natives.MathFloor = refl
there natives.MathCeil = refl
there natives.MathRound = refl
there natives.MathSqrt = refl
there natives.MathMod = refl
there natives.MathPow = refl
there natives.MathRand = refl
there natives.MathSrand = refl
there natives.MathIsValidNumber = refl
there natives.NormalizeDouble = refl
there natives.GetPointer = refl
there natives.CheckPointer = refl
there natives.Print = refl
there natives.PrintFormat = refl
there natives.Comment = refl
there natives.TimeCurrent = refl
there natives.TimeLocal = refl
there natives.TimeGMT = refl
there natives.TimeToStruct = refl
there natives.StructToTime = refl
there natives.ExpertRemove = refl
there natives.GetLastError = refl
there natives.ResetLastError = refl
there natives.Symbol = refl
there natives.Period = refl
there natives.IsStopped = refl
there natives.UninitializeReason = refl
there natives.MQLInfoInteger = refl
there natives.TesterStatistics = refl
there natives.AccountInfoDouble = refl
there natives.AccountInfoInteger = refl
there natives.AccountInfoString = refl
there natives.SymbolInfoDouble = refl
there natives.SymbolInfoInteger = refl
there natives.SymbolInfoTick = refl
there natives.ITime = refl
there natives.IOpen = refl
there natives.IHigh = refl
there natives.ILow = refl
there natives.IClose = refl
there natives.IVolume = refl
there natives.Bars = refl
there natives.CopyRates = refl
there natives.CopyTime = refl
there natives.CopyOpen = refl
there natives.CopyHigh = refl
there natives.CopyLow = refl
there natives.CopyClose = refl
there natives.CopyTickVolume = refl
there natives.IMA = refl
there natives.IATR = refl
there natives.IRSI = refl
there natives.CopyBuffer = refl
there natives.BarsCalculated = refl
there natives.OrderSend = refl
there natives.PositionsTotal = refl
there natives.PositionGetTicket = refl
there natives.PositionGetSymbol = refl
there natives.PositionSelect = refl
there natives.PositionSelectByTicket = refl
there natives.PositionGetDouble = refl
there natives.PositionGetInteger = refl
there natives.PositionGetString = refl
there natives.OrdersTotal = refl
there natives.OrderGetTicket = refl
there natives.OrderSelect = refl
there natives.OrderGetDouble = refl
there natives.OrderGetInteger = refl
there natives.OrderGetString = refl
there natives.HistorySelect = refl
there natives.HistoryDealsTotal = refl
there natives.HistoryDealGetTicket = refl
there natives.HistoryDealGetDouble = refl
there natives.HistoryDealGetInteger = refl
there natives.HistoryDealGetString = refl

-- a number is that of a function exactly where the function's number is this one
pub by_number : (number : ℕ) (native : Native) → (native_at number ≡ Some native) ↔ (native_number native ≡ number)
unfolding native_at
by_number number native =
    let z : 0 + number ≡ number = omega arith in
    (λ g. place_number NATIVES 0 number native in_order g ∙ z, λ e. ap native_at (sym e) ∙ there native)

short_found : (short : ShortName) → named (short_spelling short) ≡ Some (native_of_short short)
unfolding named native_named short_named native_spelling short_spelling
short_found shorts.Fabs = refl
short_found shorts.Fmax = refl
short_found shorts.Fmin = refl
short_found shorts.Floor = refl
short_found shorts.Ceil = refl
short_found shorts.Round = refl
short_found shorts.Sqrt = refl
short_found shorts.Fmod = refl
short_found shorts.Pow = refl
short_found shorts.Rand = refl
short_found shorts.Srand = refl
short_found shorts.Printf = refl

meant : (us : List ℕ) (n : Native) (a : Option Native) → native_named us ≡ a → (s : Option ShortName) → short_named us ≡ s → either_name a (of_short s) ≡ Some n → IsNameOf n us
meant us n (Some m) e s f h = inl ((by_spelling us n).0 (e ∙ h))
meant us n None e (Some s) f h = inr (s, (short_by_spelling us s).0 f, (let q : native_of_short s ≡ n = cc in q))
meant us n None e None f h = absurd (let q : ◌≡◌ {A = Option Native} None (Some n) = h in cc)

names : (us : List ℕ) (n : Native) → IsNameOf n us → named us ≡ Some n
unfolding named
names us n (inl e) = ap (λ (o : Option Native). either_name o (of_short (short_named us))) ((by_spelling us n).1 e)
names us n (inr x) = ap named x.1 ∙ short_found x.0 ∙ ap Some x.2

-- a text means a function exactly where it is one of its names
pub by_name : (us : List ℕ) (n : Native) → (named us ≡ Some n) ↔ IsNameOf n us
unfolding named
by_name us n = (meant us n (native_named us) refl (short_named us) refl, names us n)
