-- The native functions that ask no world, by chapters.
use Rattle.std.specs.Prelude.{List}
use Rattle.natives.specs.declared.native.Native.{Native}
use Rattle.natives.specs.declared.native.Native.TheVariants as natives
use Rattle.mql_meaning.specs.Changes.{Change, stuck}
use Rattle.mql_meaning.specs.Natives.{Argument, NativeDone, computes}
use Rattle.native_dispatch.specs.declared.contents.Chapter.{Chapter}
use Rattle.native_dispatch.specs.declared.contents.Chapter.TheVariants as chapters

-- the chapter of a native function
abbrev pub chapter : Native → Chapter
chapter natives.StringLen = chapters.Strings
chapter natives.StringSubstr = chapters.Strings
chapter natives.StringFind = chapters.Strings
chapter natives.StringReplace = chapters.Strings
chapter natives.StringTrimLeft = chapters.Strings
chapter natives.StringTrimRight = chapters.Strings
chapter natives.StringToLower = chapters.Strings
chapter natives.StringToUpper = chapters.Strings
chapter natives.StringGetCharacter = chapters.Strings
chapter natives.StringSetCharacter = chapters.Strings
chapter natives.StringSplit = chapters.Strings
chapter natives.StringCompare = chapters.Strings
chapter natives.StringToInteger = chapters.Texts
chapter natives.StringToDouble = chapters.Texts
chapter natives.IntegerToString = chapters.Texts
chapter natives.DoubleToString = chapters.Texts
chapter natives.TimeToString = chapters.Texts
chapter natives.CharToString = chapters.Texts
chapter natives.ShortToString = chapters.Texts
chapter natives.StringFormat = chapters.Texts
chapter natives.ArraySize = chapters.Arrays
chapter natives.ArrayRange = chapters.Arrays
chapter natives.ArrayResize = chapters.Arrays
chapter natives.ArrayFree = chapters.Arrays
chapter natives.ArrayInitialize = chapters.Arrays
chapter natives.ArrayCopy = chapters.Arrays
chapter natives.ArraySetAsSeries = chapters.Arrays
chapter natives.ArrayGetAsSeries = chapters.Arrays
chapter natives.ArraySort = chapters.Arrays
chapter natives.ArrayMaximum = chapters.Arrays
chapter natives.ArrayMinimum = chapters.Arrays
chapter natives.ArrayIsDynamic = chapters.Arrays
chapter natives.ZeroMemory = chapters.Arrays
chapter natives.MathAbs = chapters.Numbers
chapter natives.MathMax = chapters.Numbers
chapter natives.MathMin = chapters.Numbers
chapter natives.MathFloor = chapters.Numbers
chapter natives.MathCeil = chapters.Numbers
chapter natives.MathRound = chapters.Numbers
chapter natives.MathSqrt = chapters.Numbers
chapter natives.MathMod = chapters.Numbers
chapter natives.MathPow = chapters.Numbers
chapter natives.MathIsValidNumber = chapters.Numbers
chapter natives.NormalizeDouble = chapters.Numbers
chapter natives.Comment = chapters.Times
chapter natives.TimeToStruct = chapters.Times
chapter natives.StructToTime = chapters.Times
chapter natives.IsStopped = chapters.Times
chapter _ = chapters.Elsewhere

-- strings
abbrev pub in_strings : Native → List Argument → Change NativeDone
in_strings natives.StringLen = computes natives.StringLen
in_strings natives.StringSubstr = computes natives.StringSubstr
in_strings natives.StringFind = computes natives.StringFind
in_strings natives.StringReplace = computes natives.StringReplace
in_strings natives.StringTrimLeft = computes natives.StringTrimLeft
in_strings natives.StringTrimRight = computes natives.StringTrimRight
in_strings natives.StringToLower = computes natives.StringToLower
in_strings natives.StringToUpper = computes natives.StringToUpper
in_strings natives.StringGetCharacter = computes natives.StringGetCharacter
in_strings natives.StringSetCharacter = computes natives.StringSetCharacter
in_strings natives.StringSplit = computes natives.StringSplit
in_strings natives.StringCompare = computes natives.StringCompare
in_strings _ = λ xs. stuck

-- texts
abbrev pub in_texts : Native → List Argument → Change NativeDone
in_texts natives.StringToInteger = computes natives.StringToInteger
in_texts natives.StringToDouble = computes natives.StringToDouble
in_texts natives.IntegerToString = computes natives.IntegerToString
in_texts natives.DoubleToString = computes natives.DoubleToString
in_texts natives.TimeToString = computes natives.TimeToString
in_texts natives.CharToString = computes natives.CharToString
in_texts natives.ShortToString = computes natives.ShortToString
in_texts natives.StringFormat = computes natives.StringFormat
in_texts _ = λ xs. stuck

-- arrays
abbrev pub in_arrays : Native → List Argument → Change NativeDone
in_arrays natives.ArraySize = computes natives.ArraySize
in_arrays natives.ArrayRange = computes natives.ArrayRange
in_arrays natives.ArrayResize = computes natives.ArrayResize
in_arrays natives.ArrayFree = computes natives.ArrayFree
in_arrays natives.ArrayInitialize = computes natives.ArrayInitialize
in_arrays natives.ArrayCopy = computes natives.ArrayCopy
in_arrays natives.ArraySetAsSeries = computes natives.ArraySetAsSeries
in_arrays natives.ArrayGetAsSeries = computes natives.ArrayGetAsSeries
in_arrays natives.ArraySort = computes natives.ArraySort
in_arrays natives.ArrayMaximum = computes natives.ArrayMaximum
in_arrays natives.ArrayMinimum = computes natives.ArrayMinimum
in_arrays natives.ArrayIsDynamic = computes natives.ArrayIsDynamic
in_arrays natives.ZeroMemory = computes natives.ZeroMemory
in_arrays _ = λ xs. stuck

-- numbers
abbrev pub in_numbers : Native → List Argument → Change NativeDone
in_numbers natives.MathAbs = computes natives.MathAbs
in_numbers natives.MathMax = computes natives.MathMax
in_numbers natives.MathMin = computes natives.MathMin
in_numbers natives.MathFloor = computes natives.MathFloor
in_numbers natives.MathCeil = computes natives.MathCeil
in_numbers natives.MathRound = computes natives.MathRound
in_numbers natives.MathSqrt = computes natives.MathSqrt
in_numbers natives.MathMod = computes natives.MathMod
in_numbers natives.MathPow = computes natives.MathPow
in_numbers natives.MathIsValidNumber = computes natives.MathIsValidNumber
in_numbers natives.NormalizeDouble = computes natives.NormalizeDouble
in_numbers _ = λ xs. stuck

-- times
abbrev pub in_times : Native → List Argument → Change NativeDone
in_times natives.Comment = computes natives.Comment
in_times natives.TimeToStruct = computes natives.TimeToStruct
in_times natives.StructToTime = computes natives.StructToTime
in_times natives.IsStopped = computes natives.IsStopped
in_times _ = λ xs. stuck
