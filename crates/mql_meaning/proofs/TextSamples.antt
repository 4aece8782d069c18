-- Programs of texts, dates and native functions, worked out by hand, and computed.
use Rattle.std.proofs.Common.{◌≡◌, pos, negsuc, [], ◌∷◌, refl}
use Rattle.std.specs.Prelude.{codes, replicate}
use Rattle.fx8.specs.declared.int_kind.IntKind.TheVariants as kind
use Rattle.natives.specs.declared.native.Native.TheVariants as natives
use Rattle.mql_mean.specs.declared.value.Value.TheVariants as value
use Rattle.mql_mean.specs.declared.error.ErrorKind.TheVariants as error
use Rattle.fx8.specs.declared.int_operator.IntOperator.TheVariants as op
use Rattle.mql_meaning.specs.declared.operator.Operator.TheVariants as o
use Rattle.mql_meaning.specs.declared.types.Base.TheVariants as base
use Rattle.mql_meaning.specs.declared.types.Sort.TheVariants as sort
use Rattle.mql_meaning.specs.declared.tree.Checked.{Checked}
use Rattle.mql_meaning.specs.declared.tree.Expression.TheVariants as e
use Rattle.mql_meaning.specs.Changes.{Failed}
use Rattle.mql_meaning.proofs.Programs.{int, num, dbl, txt, yes', no', loc, rd, var, join, convert, element, field, native, does, set, print, say, of_type, array_of, ints, void, structure, with_classes, body, tells, done, run, on2}

-- Print(true, 1.0, D'2020.01.02'); a colour; NULL and a joined number
texts : Checked
texts = body [] (
    print 1 (yes' ∷ dbl (pos 100000000) ∷ num kind.Datetime (pos 1577923200) ∷ []) ∷
    print 2 (num kind.Color (pos 255) ∷ []) ∷
    print 3 (join (txt (codes "x")) (convert sort.String (int (negsuc 4))) ∷ []) ∷
    print 4 (num kind.Datetime (negsuc 0) ∷ []) ∷ [])

texts_run : run texts 9 ≡ tells done (codes "true1.02020.01.02 00:00:00" ∷ codes "255,0,0" ∷ codes "x-5" ∷ codes "-1" ∷ [])
unfolding run texts
texts_run = refl

-- strings as numbers
numbers_read : Checked
numbers_read = body [] (
    print 1 (convert (sort.Number kind.Int) (txt (codes "  -12x")) ∷ []) ∷
    print 2 (convert sort.Double (txt (codes " 1.5e3")) ∷ []) ∷
    print 3 (convert sort.Double (txt (codes "x")) ∷ []) ∷
    print 4 (native natives.StringToInteger (txt (codes "+7") ∷ []) ∷ []) ∷ [])

numbers_read_run : run numbers_read 9 ≡ tells done (codes "-12" ∷ codes "1.5" ∷ codes "0.0" ∷ codes "7" ∷ [])
unfolding run numbers_read
numbers_read_run = refl

-- DoubleToString(1.005,2), of -0.5 with 0 digits, of 1.5 with more than 8; IntegerToString(7,3,'0')
numbers_written : Checked
numbers_written = body [] (
    print 1 (native natives.DoubleToString (dbl (pos 100500000) ∷ int (pos 2) ∷ []) ∷ []) ∷
    print 2 (native natives.DoubleToString (dbl (negsuc 49999999) ∷ int (negsuc 0) ∷ []) ∷ []) ∷
    print 3 (native natives.DoubleToString (dbl (pos 150000000) ∷ int (pos 9) ∷ []) ∷ []) ∷
    print 4 (native natives.IntegerToString (num kind.Long (pos 7) ∷ int (pos 3) ∷ num kind.Ushort (pos 48) ∷ []) ∷ []) ∷ [])

numbers_written_run : run numbers_written 9 ≡ tells done (codes "1.01" ∷ codes "-1" ∷ codes "1.50000000" ∷ codes "007" ∷ [])
unfolding run numbers_written
numbers_written_run = refl

-- StringFormat("%05.1f|%-3d|%x",1.25,7,255), and other conversions
formats : Checked
formats = body [] (
    print 1 (native natives.StringFormat (txt (codes "%05.1f|%-3d|%x") ∷ dbl (pos 125000000) ∷ int (pos 7) ∷ int (pos 255) ∷ []) ∷ []) ∷
    print 2 (native natives.StringFormat (txt (codes "%+d %5.3d|%I64u %s%c%%%q") ∷ int (pos 5) ∷ int (negsuc 6) ∷ int (negsuc 0) ∷ dbl (pos 50000000) ∷ int (pos 65) ∷ []) ∷ []) ∷ [])

formats_run : run formats 9 ≡ tells done (codes "001.3|7  |ff" ∷ codes "+5  -007|18446744073709551615 0.5A%%q" ∷ [])
unfolding run formats
formats_run = refl

-- TimeToString of 2020.01.02 01:01:01 with flags 3, 5, 4; the day before the last of a leap February
dates : Checked
dates = body [] (
    print 1 (native natives.TimeToString (num kind.Datetime (pos 1577926861) ∷ int (pos 3) ∷ []) ∷ []) ∷
    print 2 (native natives.TimeToString (num kind.Datetime (pos 1577926861) ∷ int (pos 5) ∷ []) ∷ []) ∷
    print 3 (native natives.TimeToString (num kind.Datetime (pos 1577926861) ∷ int (pos 4) ∷ []) ∷ []) ∷
    print 4 (num kind.Datetime (pos 1582934400) ∷ []) ∷
    print 5 (native natives.TimeToString (num kind.Datetime (negsuc 0) ∷ int (pos 3) ∷ []) ∷ []) ∷ [])

dates_run : run dates 9 ≡ tells done (codes "2020.01.02 01:01" ∷ codes "2020.01.02 01:01:01" ∷ codes "01:01:01" ∷ codes "2020.02.29 00:00:00" ∷ codes "4003" ∷ codes "" ∷ [])
unfolding run dates
dates_run = refl

-- TimeToStruct of that time: a Thursday, and the second day of its year
fields_of_time : Checked
fields_of_time = with_classes (structure (ints ∷ ints ∷ ints ∷ ints ∷ ints ∷ ints ∷ ints ∷ ints ∷ []) ∷ []) (
    void (of_type (base.Structure 0) ∷ []) (
    print 1 (native natives.TimeToStruct (num kind.Datetime (pos 1577926861) ∷ loc 0 ∷ []) ∷ []) ∷
    print 2 (
    rd (field 0 (loc 0)) ∷ txt (codes " ") ∷ rd (field 1 (loc 0)) ∷ txt (codes " ") ∷ rd (field 2 (loc 0)) ∷ txt (codes " ") ∷
    rd (field 3 (loc 0)) ∷ txt (codes " ") ∷ rd (field 6 (loc 0)) ∷ txt (codes " ") ∷ rd (field 7 (loc 0)) ∷ []) ∷ []) ∷ [])

fields_of_time_run : run fields_of_time 9 ≡ tells done (codes "true" ∷ codes "2020 1 2 1 4 1" ∷ [])
unfolding run fields_of_time
fields_of_time_run = refl

-- StringSubstr("hello",1,3), past its end, StringFind, StringCompare, StringGetCharacter
strings : Checked
strings = body [] (
    print 1 (native natives.StringSubstr (txt (codes "hello") ∷ int (pos 1) ∷ int (pos 3) ∷ []) ∷ []) ∷
    print 2 (native natives.StringSubstr (txt (codes "hello") ∷ int (pos 6) ∷ int (negsuc 0) ∷ []) ∷ []) ∷
    print 3 (native natives.StringFind (txt (codes "hello") ∷ txt (codes "l") ∷ int (pos 0) ∷ []) ∷ native natives.StringFind (txt (codes "hello") ∷ txt (codes "x") ∷ int (pos 0) ∷ []) ∷ []) ∷
    print 4 (native natives.StringCompare (txt (codes "Ab") ∷ txt (codes "aB") ∷ no' ∷ []) ∷ native natives.StringCompare (txt (codes "Ab") ∷ txt (codes "aB") ∷ yes' ∷ []) ∷ []) ∷
    print 5 (native natives.StringGetCharacter (txt (codes "hello") ∷ int (pos 4) ∷ []) ∷ []) ∷ [])

strings_run : run strings 9 ≡ tells done (codes "ell" ∷ codes "4003" ∷ codes "" ∷ codes "2-1" ∷ codes "0-1" ∷ codes "111" ∷ [])
unfolding run strings
strings_run = refl

-- functions that change a string, and StringSplit
changed : Checked
changed = body (of_type base.String ∷ array_of base.String (0 ∷ []) ∷ []) (
    set 1 (loc 0) (txt (codes " aXaX ")) ∷
    print 2 (native natives.StringTrimLeft (loc 0 ∷ []) ∷ native natives.StringTrimRight (loc 0 ∷ []) ∷ var 0 ∷ []) ∷
    print 3 (native natives.StringReplace (loc 0 ∷ txt (codes "X") ∷ txt (codes "yy") ∷ []) ∷ var 0 ∷ []) ∷
    print 4 (native natives.StringToUpper (loc 0 ∷ []) ∷ var 0 ∷ []) ∷
    print 5 (native natives.StringSetCharacter (loc 0 ∷ int (pos 6) ∷ num kind.Ushort (pos 33) ∷ []) ∷ var 0 ∷ []) ∷
    print 6 (native natives.StringSplit (txt (codes "a,,b") ∷ num kind.Ushort (pos 44) ∷ loc 1 ∷ []) ∷ rd (element (loc 1) (int (pos 2))) ∷ []) ∷ [])

changed_runs : run changed 9 ≡ tells done (codes "11aXaX" ∷ codes "2ayyayy" ∷ codes "trueAYYAYY" ∷ codes "trueAYYAYY!" ∷ codes "3b" ∷ [])
unfolding run changed
changed_runs = refl

-- MathSqrt(2.0), MathPow(2.0,10.0) and (2.0,-1.0), MathMod(-7.5,2.0), floor and ceiling of -1.5, rounding of
-- 2.5
maths : Checked
maths = body [] (
    print 1 (native natives.MathSqrt (dbl (pos 200000000) ∷ []) ∷ []) ∷
    print 2 (native natives.MathPow (dbl (pos 200000000) ∷ dbl (pos 1000000000) ∷ []) ∷ txt (codes " ") ∷ native natives.MathPow (dbl (pos 200000000) ∷ dbl (negsuc 99999999) ∷ []) ∷ []) ∷
    print 3 (native natives.MathMod (dbl (negsuc 749999999) ∷ dbl (pos 200000000) ∷ []) ∷ []) ∷
    print 4 (native natives.MathFloor (dbl (negsuc 149999999) ∷ []) ∷ txt (codes " ") ∷ native natives.MathCeil (dbl (negsuc 149999999) ∷ []) ∷ txt (codes " ") ∷ native natives.MathRound (dbl (pos 250000000) ∷ []) ∷ []) ∷
    print 5 (native natives.NormalizeDouble (dbl (pos 123456000) ∷ int (pos 2) ∷ []) ∷ native natives.MathMax (int (pos 3) ∷ int (pos 4) ∷ []) ∷ native natives.MathAbs (int (negsuc 4) ∷ []) ∷ []) ∷
    print 6 (native natives.MathSqrt (dbl (negsuc 0) ∷ []) ∷ []) ∷ [])

maths_run : run maths 9 ≡ tells (Failed error.MathDomain 6) (codes "1.41421356" ∷ codes "1024.0 0.5" ∷ codes "-1.5" ∷ codes "-2.0 -1.0 3.0" ∷ codes "1.2345" ∷ [])
unfolding run maths
maths_run = refl

-- EnumToString of a member, and of a number that is none
named : Checked
named = body [] (
    print 1 (e.Named (codes "Buy" ∷ codes "Sell" ∷ []) (value.Num kind.Int (pos 0) ∷ value.Num kind.Int (pos 1) ∷ []) (codes "Side::") (int (pos 1) ∷ []) ∷ []) ∷
    print 2 (e.Named (codes "Buy" ∷ codes "Sell" ∷ []) (value.Num kind.Int (pos 0) ∷ value.Num kind.Int (pos 1) ∷ []) (codes "Side::") (int (pos 7) ∷ []) ∷ []) ∷ [])

named_runs : run named 9 ≡ tells done (codes "Sell" ∷ codes "Side::7" ∷ [])
unfolding run named
named_runs = refl

-- a string past the longest one ends where it is made
too_long : Checked
too_long = body [] (
    say 1 (codes "a") ∷
    does 2 (native natives.IntegerToString (num kind.Long (pos 7) ∷ int (pos 65537) ∷ num kind.Ushort (pos 48) ∷ [])) ∷ [])

too_long_runs : run too_long 9 ≡ tells (Failed error.CellsExhausted 2) (codes "a" ∷ [])
unfolding run too_long
too_long_runs = refl

-- StructToTime of that time, and of 30 February
time_of_fields : Checked
time_of_fields = with_classes (structure (ints ∷ ints ∷ ints ∷ ints ∷ ints ∷ ints ∷ ints ∷ ints ∷ []) ∷ []) (
    void (of_type (base.Structure 0) ∷ []) (
    set 1 (field 0 (loc 0)) (int (pos 2020)) ∷
    set 1 (field 1 (loc 0)) (int (pos 1)) ∷
    set 1 (field 2 (loc 0)) (int (pos 2)) ∷
    set 1 (field 3 (loc 0)) (int (pos 1)) ∷
    set 1 (field 4 (loc 0)) (int (pos 1)) ∷
    set 1 (field 5 (loc 0)) (int (pos 1)) ∷
    print 2 (native natives.StructToTime (var 0 ∷ []) ∷ []) ∷
    set 3 (field 1 (loc 0)) (int (pos 2)) ∷
    set 3 (field 2 (loc 0)) (int (pos 30)) ∷
    print 4 (convert (sort.Number kind.Int) (native natives.StructToTime (var 0 ∷ [])) ∷ []) ∷ []) ∷ [])

time_of_fields_run : run time_of_fields 9 ≡ tells done (codes "2020.01.02 01:01:01" ∷ codes "4003" ∷ codes "0" ∷ [])
unfolding run time_of_fields
time_of_fields_run = refl

-- a literal that is too long ends where it is evaluated
literal_too_long : Checked
literal_too_long = body [] (say 1 (codes "a") ∷ say 2 (replicate 65537 120) ∷ [])

literal_too_long_runs : run literal_too_long 9 ≡ tells (Failed error.CellsExhausted 2) (codes "a" ∷ [])
unfolding run literal_too_long
literal_too_long_runs = refl

-- other functions of strings and numbers; strings are compared by units, and NULL is the empty string
more_natives : Checked
more_natives = body (of_type base.String ∷ []) (
    print 1 (native natives.CharToString (num kind.Uchar (pos 65) ∷ []) ∷ native natives.ShortToString (num kind.Ushort (pos 66) ∷ []) ∷ []) ∷
    set 2 (loc 0) (txt (codes "AbC")) ∷
    print 2 (native natives.StringToLower (loc 0 ∷ []) ∷ var 0 ∷ native natives.StringLen (var 0 ∷ []) ∷ []) ∷
    print 3 (native natives.MathMin (int (pos 3) ∷ int (pos 4) ∷ []) ∷ native natives.MathIsValidNumber (dbl (pos 1) ∷ []) ∷ native natives.IsStopped [] ∷ []) ∷
    does 4 (native natives.Comment (txt (codes "c") ∷ [])) ∷
    print 5 (
    on2 (o.Binary op.Less sort.String) (txt (codes "ab")) (txt (codes "b")) ∷
    on2 (o.Binary op.Equal sort.String) (txt (codes "ab")) (txt (codes "a")) ∷
    convert sort.String (e.Constant (value.Ptr 0)) ∷ []) ∷ [])

more_natives_run : run more_natives 9 ≡ tells done (codes "AB" ∷ codes "trueabc3" ∷ codes "3truefalse" ∷ codes "truefalse" ∷ [])
unfolding run more_natives
more_natives_run = refl
