-- The native functions that ask no world: what each gives, one line a function (MQL5 Reference; the chapters
-- stand below). The arguments are those of its parameters, defaults included.
use Rattle.std.specs.Prelude.{ℕ, ℤ, pos, negsuc, ◌-◌, ◌*◌, ◌/◌, ◌%◌, not, nat_le, int_lt, Bool, true, false, List, [], ◌∷◌, length, take, drop, map, unsigned_abs, Option, Some, None, slice_get, min, Result, Ok, Err}
use Rattle.fx8.specs.declared.int_kind.IntKind.TheVariants as kind
use Rattle.fx8.specs.declared.fix_fault.FixFault.{FixFault}
use Rattle.fx8.specs.Integers.{wrapped, is_zero}
use Rattle.fx8.specs.Operators.{bits}
use Rattle.fx8.specs.Doubles.{double, normalized}
use Rattle.mql_mean.specs.declared.value.Value.{Value, out-Value}
use Rattle.mql_mean.specs.declared.value.Value.TheVariants as value
use Rattle.mql_mean.specs.declared.value.Value.TheOpen.{Value-F}
use Rattle.mql_meaning.specs.declared.cell.Cell.{Cell, out-Cell}
use Rattle.mql_meaning.specs.declared.cell.Cell.TheVariants as cell
use Rattle.natives.specs.declared.native.Native.{Native}
use Rattle.natives.specs.declared.native.Native.TheVariants as natives
use Rattle.mql_meaning.specs.Changes.{Change, ◌>>=◌, give, stuck, the, for_each, either, then_some}
use Rattle.mql_meaning.specs.Cells.{put, fields_in}
use Rattle.mql_meaning.specs.Places.{number_of, value_at}
use Rattle.mql_meaning.specs.Operands.{text}
use Rattle.mql_meaning.specs.Operators.{units_of, string_of, no_fault, order}
use Rattle.mql_meaning.specs.Dates.{Date, date, has_date, day_of_week, moment}
use Rattle.mql_meaning.specs.Texts.{whole_text, integer_of, double_of}
use Rattle.mql_meaning.specs.StringFunctions.{place_in, count_in, part_of, find_from, Counted, replace_in, trimmed_left, trimmed_right, small, capital, with_unit, split, padded, width_of, decimals_of, fixed_text, time_parts}
use Rattle.mql_meaning.specs.Formats.{format}
use Rattle.mql_meaning.specs.ArrayFunctions.{leaves, refilled, ArrayParts, array_of, rebuilt, per_place, size, resized, range, grown, copy_at, filled, sorted, best, numbers, zeroed}
use Rattle.mql_meaning.specs.MathFunctions.{size_of, greater, lesser, floor_of, ceil_of, square_root, rest_of, power}

-- an argument: a value, or what stands at a place
pub data Argument : Type 0 where
  Given : (value : Value) → Argument
  Lent : (cell : Cell) → Argument

-- what a native function does: its value, what its first reference arguments become, and whether an argument
-- was out of range, which sets the last error
pub record NativeDone : Type 0 where
  pub value : Value
  pub outs : List Cell
  pub out_of_range : Bool

-- the value of a void function
abbrev pub void_value : Value
void_value = value.Num kind.Int (pos 0)

-- numbers as values
abbrev pub int : ℤ → Value
int x = value.Num kind.Int x

abbrev pub whole : ℕ → Value
whole n = int (pos n)

abbrev pub minus_one : Value
minus_one = int (negsuc 0)

abbrev pub truth_value : Bool → Value
truth_value b = value.Num kind.Bool (either b (pos 1) (pos 0))

abbrev pub empty : Value
empty = value.Str []

-- gives a value; also with what reference arguments become
abbrev pub gives : Value → Change NativeDone
gives v = give (record { value = v; outs = []; out_of_range = false })

abbrev pub gives_with : List Cell → Value → Change NativeDone
gives_with outs v = give (record { value = v; outs = outs; out_of_range = false })

-- an argument is out of range: reference arguments stay
abbrev pub refuses : Value → Change NativeDone
refuses v = give (record { value = v; outs = []; out_of_range = true })

-- something that is in range, else a refusal with a value
abbrev pub in_range : {A : Type 0}
    → Value → Option A → (A → Change NativeDone) → Change NativeDone
in_range v None f = refuses v
in_range v (Some a) f = f a

-- strings are given, doubles are given
abbrev pub gives_text : List ℕ → Change NativeDone
gives_text s = text s >>= gives

abbrev pub gives_double : ℤ → Change NativeDone
gives_double x = gives (value.Dbl x)

-- a string that is a reference argument becomes another one
abbrev pub becomes_text : List ℕ → Value → Change NativeDone
becomes_text s v = text s >>= λ t. gives_with (cell.One t ∷ []) v

-- the arguments: any value, a number, a double, a string; what stands at a place, a string there, an array
abbrev pub a_value : Argument → Change Value
a_value (Given v) = give v
a_value (Lent c) = stuck

abbrev pub a_cell : Argument → Change Cell
a_cell (Given v) = stuck
a_cell (Lent c) = give c

abbrev pub a_number : Argument → Change ℤ
a_number x = a_value x >>= λ v. the (number_of v)

abbrev pub a_double : Argument → Change ℤ
a_double x = a_value x >>= λ v. the (units_of v)

abbrev pub a_string : Argument → Change (List ℕ)
a_string x = a_value x >>= λ v. the (string_of v)

abbrev pub lent_string : Argument → Change (List ℕ)
lent_string x = a_cell x >>= λ c. the (then_some (value_at (out-Cell c)) string_of)

abbrev pub an_array : Argument → Change ArrayParts
an_array x = a_cell x >>= λ c. the (array_of c)

-- one argument, two, and so on
abbrev pub with_1 : {A : Type 0}
    → (Argument → Change A) → (A → Change NativeDone) → List Argument → Change NativeDone
with_1 a f (x ∷ []) = a x >>= f
with_1 a f _ = stuck

abbrev pub with_2 : {A B : Type 0}
    → (Argument → Change A) → (Argument → Change B) → (A → B → Change NativeDone)
    → List Argument → Change NativeDone
with_2 a b f (x ∷ y ∷ []) = a x >>= λ u. b y >>= f u
with_2 a b f _ = stuck

abbrev pub with_3 : {A B C : Type 0}
    → (Argument → Change A) → (Argument → Change B) → (Argument → Change C)
    → (A → B → C → Change NativeDone) → List Argument → Change NativeDone
with_3 a b c f (x ∷ y ∷ z ∷ []) = a x >>= λ u. b y >>= λ v. c z >>= f u v
with_3 a b c f _ = stuck

abbrev pub with_more : {A : Type 0}
    → (Argument → Change A) → (A → List Value → Change NativeDone) → List Argument → Change NativeDone
with_more a f (x ∷ xs) = a x >>= λ u. for_each a_value xs >>= f u
with_more a f _ = stuck

-- StringFind: from a place on
abbrev pub finds : List ℕ → List ℕ → ℕ → Change NativeDone
finds s part start = gives (found (find_from start part (drop start s)))
  where
    found : Option ℕ → Value
    found (Some i) = whole i
    found None = minus_one

-- StringReplace, and the trims: a string becomes another one
abbrev pub replaces : List ℕ → List ℕ → List ℕ → Change NativeDone
replaces s part by =
    let c : Counted = replace_in s part by in
    becomes_text c.text (whole c.count)

abbrev pub trims : (List ℕ → List ℕ) → List ℕ → Change NativeDone
trims f s = becomes_text (f s) (whole (length s - length (f s)))

-- StringSubstr: from a place on, of so many units
abbrev pub cuts : List ℕ → ℤ → ℤ → Change NativeDone
cuts s start len =
    in_range empty (place_in start (length s)) (λ i.
    in_range empty (count_in len (length s - i)) (λ n. gives_text (part_of s i n)))

-- a place of a string that has a unit
abbrev pub unit_at : List ℕ → ℤ → Option ℕ
unit_at s i = then_some (place_in i (length s)) (λ k. slice_get s k)

-- StringSetCharacter: the place may be the end
abbrev pub sets_unit : List ℕ → ℤ → ℤ → Change NativeDone
sets_unit s i c =
    in_range (truth_value false) (place_in i (length s)) (λ k.
    becomes_text (with_unit s k (unsigned_abs c)) (truth_value true))

-- StringSplit: the parts are the elements of a dynamic array
abbrev pub splits : List ℕ → ℤ → ArrayParts → Change NativeDone
splits s separator a =
    let ss = split (unsigned_abs separator) s in
    let cells = map (λ t. cell.One (value.Str t)) ss in
    either a.dynamic (gives_with (rebuilt (record a { cells = cells }) ∷ []) (whole (length ss)))
    (refuses (whole 0))

-- StringCompare: without case capitals count as small letters
abbrev pub compares_strings : List ℕ → List ℕ → ℤ → Change NativeDone
compares_strings a b case =
    gives (int (either (is_zero case) (order (map small a) (map small b)) (order a b)))

-- TimeToString: the time must have a date
abbrev pub tells_time : ℤ → ℤ → Change NativeDone
tells_time t flags =
    either (has_date t) (gives_text (time_parts (unsigned_abs t) (bits kind.Int flags))) (refuses empty)

-- StringFormat
abbrev pub formats : List ℕ → List Value → Change NativeDone
formats f vs = formats_to (format f vs)
  where
    formats_to : Result (List ℕ) FixFault → Change NativeDone
    formats_to (Ok s) = gives_text s
    formats_to (Err fault) = no_fault (Err fault) >>= gives_double

-- ArrayResize and ArrayFree: the array must be dynamic
abbrev pub resizes : ArrayParts → ℤ → Change NativeDone
resizes a (negsuc n) = refuses minus_one
resizes a (pos n) =
    either a.dynamic (gives_with (rebuilt (resized n a) ∷ []) (whole (n * per_place a.unit)))
    (refuses minus_one)

abbrev pub frees : ArrayParts → Change NativeDone
frees a = either a.dynamic (gives_with (rebuilt (resized 0 a) ∷ []) void_value) (refuses void_value)

-- ArrayCopy: as many elements as there are and as fit; a dynamic target grows
abbrev pub fitting : ArrayParts → ℕ → ℕ → Option ℕ
fitting a at n = either a.dynamic (Some n) (either (nat_le at (size a)) (Some (min n (size a - at))) None)

abbrev pub copies : Cell → Cell → ℤ → ℤ → ℤ → Change NativeDone
copies target source at from count = do
  a ← the (array_of target)
  in_range (whole 0) (place_in from (length (leaves source))) (λ f.
      in_range (whole 0) (count_in count (length (leaves source) - f)) (λ n.
      in_range (whole 0) (place_from at) (λ t.
      in_range (whole 0) (fitting a t n) (λ k.
      copy_at (rebuilt (either a.dynamic (grown a t k) a)) t (part_of (leaves source) f k) >>= λ c.
      gives_with (c ∷ []) (whole k)))))
  where
    place_from : ℤ → Option ℕ
    place_from (pos i) = Some i
    place_from (negsuc i) = None

abbrev pub copies_of : List Argument → Change NativeDone
copies_of (target ∷ source ∷ at ∷ from ∷ count ∷ []) = do
  t ← a_cell target
  s ← a_cell source
  i ← a_number at
  j ← a_number from
  n ← a_number count
  copies t s i j n
copies_of _ = stuck

-- ArrayMaximum and ArrayMinimum: among the elements from a place on, of which there must be one
abbrev pub extreme : (ℤ → ℤ → Bool) → Cell → ℤ → ℤ → Change NativeDone
extreme better a start count = do
  xs ← the (numbers (leaves a))
  in_range minus_one (place_in start (length xs)) (λ i.
      in_range minus_one (count_in count (length xs - i)) (λ n.
      in_range minus_one (best better i (part_of xs i n)) (λ k. gives (whole k))))

-- MathAbs, MathMax and MathMin: of integers of one kind, or of doubles
abbrev pub of_number : (ℤ → ℤ) → Value → Change NativeDone
of_number f v = number_or_double (out-Value v)
  where
    number_or_double : Value-F Value → Change NativeDone
    number_or_double (Value-F.Num k x) = gives (value.Num k (wrapped k (f x)))
    number_or_double (Value-F.Dbl x) = no_fault (double (f x)) >>= gives_double
    number_or_double _ = stuck

abbrev pub of_numbers : (ℤ → ℤ → ℤ) → Value → Value → Change NativeDone
of_numbers f v w = numbers_or_doubles (out-Value v) (out-Value w)
  where
    numbers_or_doubles : Value-F Value → Value-F Value → Change NativeDone
    numbers_or_doubles (Value-F.Num k x) (Value-F.Num j y) = gives (value.Num k (f x y))
    numbers_or_doubles (Value-F.Dbl x) (Value-F.Dbl y) = gives_double (f x y)
    numbers_or_doubles _ _ = stuck

-- TimeToStruct: the fields of `MqlDateTime`
abbrev pub time_fields : ℕ → List ℕ
time_fields t =
    let d : Date = date (t / 86400) in
    d.year ∷ d.month ∷ d.day
    ∷ t / 3600 % 24 ∷ t / 60 % 60 ∷ t % 60 ∷ day_of_week t ∷ d.day_of_year ∷ []

abbrev pub to_structure : ℤ → Cell → Change NativeDone
to_structure t c = either (has_date t)
    (the (put c (value.Rec (map whole (time_fields (unsigned_abs t))))) >>= λ d.
    gives_with (d ∷ []) (truth_value true))
    (refuses (truth_value false))

-- StructToTime: the first six fields name a time
abbrev pub naturals : List Value → Option (List ℕ)
naturals [] = Some []
naturals (v ∷ vs) =
    then_some (then_some (number_of v) natural) (λ n. then_some (naturals vs) (λ ns. Some (n ∷ ns)))
  where
    natural : ℤ → Option ℕ
    natural (pos n) = Some n
    natural (negsuc n) = None

abbrev pub named_moment : List ℕ → Option ℕ
named_moment (year ∷ month ∷ day ∷ hour ∷ minute ∷ sec ∷ rest) = moment year month day hour minute sec
named_moment _ = None

abbrev pub from_structure : Value → Change NativeDone
from_structure v = do
  fields ← the (fields_in (out-Value v))
  in_range (value.Num kind.Datetime (pos 0)) (then_some (naturals (take 6 fields)) named_moment)
      (λ t. gives (value.Num kind.Datetime (pos t)))

abbrev pub computes : Native → List Argument → Change NativeDone
-- String Functions; Conversion Functions
computes natives.StringLen = with_1 a_string (λ s. gives (whole (length s)))
computes natives.StringSubstr = with_3 a_string a_number a_number cuts
computes natives.StringFind =
    with_3 a_string a_string a_number (λ s part start.
    in_range minus_one (place_in start (length s)) (finds s part))
computes natives.StringReplace = with_3 lent_string a_string a_string replaces
computes natives.StringTrimLeft = with_1 lent_string (trims trimmed_left)
computes natives.StringTrimRight = with_1 lent_string (trims trimmed_right)
computes natives.StringToLower = with_1 lent_string (λ s. becomes_text (map small s) (truth_value true))
computes natives.StringToUpper = with_1 lent_string (λ s. becomes_text (map capital s) (truth_value true))
computes natives.StringGetCharacter = with_2 a_string a_number
    (λ s i. in_range (value.Num kind.Ushort (pos 0)) (unit_at s i)
    (λ u. gives (value.Num kind.Ushort (pos u))))
computes natives.StringSetCharacter = with_3 lent_string a_number a_number sets_unit
computes natives.StringSplit = with_3 a_string a_number an_array splits
computes natives.StringCompare = with_3 a_string a_string a_number compares_strings
computes natives.StringToInteger = with_1 a_string (λ s. gives (value.Num kind.Long (integer_of s)))
computes natives.StringToDouble = with_1 a_string (λ s. gives_double (double_of s))
computes natives.IntegerToString = with_3 a_number a_number a_number
    (λ n width fill. gives_text (padded false (width_of width) (unsigned_abs fill) (whole_text n)))
computes natives.DoubleToString =
    with_2 a_double a_number (λ x digits. gives_text (fixed_text (decimals_of digits) x))
computes natives.TimeToString = with_2 a_number a_number tells_time
computes natives.CharToString = with_1 a_number (λ c. gives_text (unsigned_abs c ∷ []))
computes natives.ShortToString = with_1 a_number (λ c. gives_text (unsigned_abs c ∷ []))
computes natives.StringFormat = with_more a_string formats
-- Array Functions; Common Functions, ZeroMemory
computes natives.ArraySize = with_1 an_array (λ a. gives (whole (size a)))
computes natives.ArrayRange = with_2 an_array a_number (λ a d.
    in_range (whole 0) (then_some (place_in d 3) (λ k. range k a.unit a.cells)) (λ n. gives (whole n)))
computes natives.ArrayResize = with_3 an_array a_number a_number (λ a n reserve. resizes a n)
computes natives.ArrayFree = with_1 an_array frees
computes natives.ArrayInitialize =
    with_2 a_cell a_value (λ c v. filled c v >>= λ d. gives_with (d ∷ []) (whole (length (leaves c))))
computes natives.ArrayCopy = copies_of
computes natives.ArraySetAsSeries =
    with_2 an_array a_number (λ a flag.
    gives_with (rebuilt (record a { series = not (is_zero flag) }) ∷ []) (truth_value true))
computes natives.ArrayGetAsSeries = with_1 an_array (λ a. gives (truth_value a.series))
computes natives.ArraySort =
    with_1 a_cell (λ c. gives_with (refilled c (sorted (leaves c)) ∷ []) (truth_value true))
computes natives.ArrayMaximum = with_3 a_cell a_number a_number (extreme (λ y x. int_lt x y))
computes natives.ArrayMinimum = with_3 a_cell a_number a_number (extreme (λ y x. int_lt y x))
computes natives.ArrayIsDynamic = with_1 an_array (λ a. gives (truth_value a.dynamic))
computes natives.ZeroMemory = with_1 a_cell (λ c. gives_with (zeroed c ∷ []) void_value)
-- Math Functions; NormalizeDouble
computes natives.MathAbs = with_1 a_value (of_number size_of)
computes natives.MathMax = with_2 a_value a_value (of_numbers greater)
computes natives.MathMin = with_2 a_value a_value (of_numbers lesser)
computes natives.MathFloor = with_1 a_double (λ x. no_fault (floor_of x) >>= gives_double)
computes natives.MathCeil = with_1 a_double (λ x. no_fault (ceil_of x) >>= gives_double)
computes natives.MathRound = with_1 a_double (λ x. no_fault (normalized 0 x) >>= gives_double)
computes natives.MathSqrt = with_1 a_double (λ x. square_root x >>= gives_double)
computes natives.MathMod = with_2 a_double a_double (λ x y. no_fault (rest_of x y) >>= gives_double)
computes natives.MathPow = with_2 a_double a_double (λ x y. power x y >>= gives_double)
computes natives.MathIsValidNumber = with_1 a_double (λ x. gives (truth_value true))
computes natives.NormalizeDouble =
    with_2 a_double a_number (λ x digits. no_fault (normalized (decimals_of digits) x) >>= gives_double)
-- Common Functions; Date and Time; Checkup
computes natives.Comment = λ xs. gives void_value
computes natives.TimeToStruct = with_2 a_number a_cell to_structure
computes natives.StructToTime = with_1 a_value from_structure
computes natives.IsStopped = λ xs. gives (truth_value false)
computes _ = λ xs. stuck
