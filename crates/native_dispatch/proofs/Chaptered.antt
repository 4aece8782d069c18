-- A native function computes what its chapter says.
use Rattle.std.proofs.Common.{◌≡◌, List, refl}
use Rattle.natives.specs.declared.native.Native.{Native}
use Rattle.natives.specs.declared.native.Native.TheVariants as natives
use Rattle.mql_meaning.specs.declared.store.Store.{Store}
use Rattle.mql_meaning.specs.Changes.{Over, Stuck}
use Rattle.mql_meaning.specs.Natives.{Argument, computes}
use Rattle.native_dispatch.specs.declared.contents.Chapter.TheVariants as chapters
use Rattle.native_dispatch.specs.Chapters.{chapter, in_strings, in_texts, in_arrays, in_numbers, in_times}

pub strings_are : (f : Native) (xs : List Argument) (s : Store) → chapter f ≡ chapters.Strings →
    computes f xs s ≡ in_strings f xs s
strings_are natives.StringLen xs s e = refl
strings_are natives.StringSubstr xs s e = refl
strings_are natives.StringFind xs s e = refl
strings_are natives.StringReplace xs s e = refl
strings_are natives.StringTrimLeft xs s e = refl
strings_are natives.StringTrimRight xs s e = refl
strings_are natives.StringToLower xs s e = refl
strings_are natives.StringToUpper xs s e = refl
strings_are natives.StringGetCharacter xs s e = refl
strings_are natives.StringSetCharacter xs s e = refl
strings_are natives.StringSplit xs s e = refl
strings_are natives.StringCompare xs s e = refl
strings_are _ xs s e = absurd cc

pub texts_are : (f : Native) (xs : List Argument) (s : Store) → chapter f ≡ chapters.Texts →
    computes f xs s ≡ in_texts f xs s
texts_are natives.StringToInteger xs s e = refl
texts_are natives.StringToDouble xs s e = refl
texts_are natives.IntegerToString xs s e = refl
texts_are natives.DoubleToString xs s e = refl
texts_are natives.TimeToString xs s e = refl
texts_are natives.CharToString xs s e = refl
texts_are natives.ShortToString xs s e = refl
texts_are natives.StringFormat xs s e = refl
texts_are _ xs s e = absurd cc

pub arrays_are : (f : Native) (xs : List Argument) (s : Store) → chapter f ≡ chapters.Arrays →
    computes f xs s ≡ in_arrays f xs s
arrays_are natives.ArraySize xs s e = refl
arrays_are natives.ArrayRange xs s e = refl
arrays_are natives.ArrayResize xs s e = refl
arrays_are natives.ArrayFree xs s e = refl
arrays_are natives.ArrayInitialize xs s e = refl
arrays_are natives.ArrayCopy xs s e = refl
arrays_are natives.ArraySetAsSeries xs s e = refl
arrays_are natives.ArrayGetAsSeries xs s e = refl
arrays_are natives.ArraySort xs s e = refl
arrays_are natives.ArrayMaximum xs s e = refl
arrays_are natives.ArrayMinimum xs s e = refl
arrays_are natives.ArrayIsDynamic xs s e = refl
arrays_are natives.ZeroMemory xs s e = refl
arrays_are _ xs s e = absurd cc

pub numbers_are : (f : Native) (xs : List Argument) (s : Store) → chapter f ≡ chapters.Numbers →
    computes f xs s ≡ in_numbers f xs s
numbers_are natives.MathAbs xs s e = refl
numbers_are natives.MathMax xs s e = refl
numbers_are natives.MathMin xs s e = refl
numbers_are natives.MathFloor xs s e = refl
numbers_are natives.MathCeil xs s e = refl
numbers_are natives.MathRound xs s e = refl
numbers_are natives.MathSqrt xs s e = refl
numbers_are natives.MathMod xs s e = refl
numbers_are natives.MathPow xs s e = refl
numbers_are natives.MathIsValidNumber xs s e = refl
numbers_are natives.NormalizeDouble xs s e = refl
numbers_are _ xs s e = absurd cc

pub times_are : (f : Native) (xs : List Argument) (s : Store) → chapter f ≡ chapters.Times →
    computes f xs s ≡ in_times f xs s
times_are natives.Comment xs s e = refl
times_are natives.TimeToStruct xs s e = refl
times_are natives.StructToTime xs s e = refl
times_are natives.IsStopped xs s e = refl
times_are _ xs s e = absurd cc

pub elsewhere_is : (f : Native) (xs : List Argument) (s : Store) → chapter f ≡ chapters.Elsewhere →
    computes f xs s ≡ Over Stuck s
elsewhere_is natives.StringLen xs s e = absurd cc
elsewhere_is natives.StringSubstr xs s e = absurd cc
elsewhere_is natives.StringFind xs s e = absurd cc
elsewhere_is natives.StringReplace xs s e = absurd cc
elsewhere_is natives.StringTrimLeft xs s e = absurd cc
elsewhere_is natives.StringTrimRight xs s e = absurd cc
elsewhere_is natives.StringToLower xs s e = absurd cc
elsewhere_is natives.StringToUpper xs s e = absurd cc
elsewhere_is natives.StringGetCharacter xs s e = absurd cc
elsewhere_is natives.StringSetCharacter xs s e = absurd cc
elsewhere_is natives.StringSplit xs s e = absurd cc
elsewhere_is natives.StringCompare xs s e = absurd cc
elsewhere_is natives.StringToInteger xs s e = absurd cc
elsewhere_is natives.StringToDouble xs s e = absurd cc
elsewhere_is natives.IntegerToString xs s e = absurd cc
elsewhere_is natives.DoubleToString xs s e = absurd cc
elsewhere_is natives.TimeToString xs s e = absurd cc
elsewhere_is natives.CharToString xs s e = absurd cc
elsewhere_is natives.ShortToString xs s e = absurd cc
elsewhere_is natives.StringFormat xs s e = absurd cc
elsewhere_is natives.ArraySize xs s e = absurd cc
elsewhere_is natives.ArrayRange xs s e = absurd cc
elsewhere_is natives.ArrayResize xs s e = absurd cc
elsewhere_is natives.ArrayFree xs s e = absurd cc
elsewhere_is natives.ArrayInitialize xs s e = absurd cc
elsewhere_is natives.ArrayCopy xs s e = absurd cc
elsewhere_is natives.ArraySetAsSeries xs s e = absurd cc
elsewhere_is natives.ArrayGetAsSeries xs s e = absurd cc
elsewhere_is natives.ArraySort xs s e = absurd cc
elsewhere_is natives.ArrayMaximum xs s e = absurd cc
elsewhere_is natives.ArrayMinimum xs s e = absurd cc
elsewhere_is natives.ArrayIsDynamic xs s e = absurd cc
elsewhere_is natives.ZeroMemory xs s e = absurd cc
elsewhere_is natives.MathAbs xs s e = absurd cc
elsewhere_is natives.MathMax xs s e = absurd cc
elsewhere_is natives.MathMin xs s e = absurd cc
elsewhere_is natives.MathFloor xs s e = absurd cc
elsewhere_is natives.MathCeil xs s e = absurd cc
elsewhere_is natives.MathRound xs s e = absurd cc
elsewhere_is natives.MathSqrt xs s e = absurd cc
elsewhere_is natives.MathMod xs s e = absurd cc
elsewhere_is natives.MathPow xs s e = absurd cc
elsewhere_is natives.MathIsValidNumber xs s e = absurd cc
elsewhere_is natives.NormalizeDouble xs s e = absurd cc
elsewhere_is natives.Comment xs s e = absurd cc
elsewhere_is natives.TimeToStruct xs s e = absurd cc
elsewhere_is natives.StructToTime xs s e = absurd cc
elsewhere_is natives.IsStopped xs s e = absurd cc
elsewhere_is _ xs s e = refl
