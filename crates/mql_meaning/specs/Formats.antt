-- The format of StringFormat and PrintFormat (MQL5 Reference, Common Functions, PrintFormat).
use Rattle.std.specs.Prelude.{ℕ, zero, suc, ◌+◌, ◌-◌, ◌/◌, ◌%◌, ◌==◌, ◌&&◌, ◌||◌, not, nat_lt, nat_le, Bool, true, false, List, [], ◌∷◌, ◌++◌, length, take, drop, take_while, decimal, codes, ℤ, pos, unsigned_abs, Option, Some, None, Result, Ok, Err}
use Rattle.fx8.specs.declared.int_kind.IntKind.TheVariants as kind
use Rattle.fx8.specs.declared.fix_fault.FixFault.{FixFault}
use Rattle.fx8.specs.Integers.{wrapped}
use Rattle.fx8.specs.Doubles.{double_of_whole, whole_of}
use Rattle.fx8.specs.Rounding.{is_below_zero}
use Rattle.fx8.specs.Decimals.{is_digit, number, text_of}
use Rattle.mql_mean.specs.declared.value.Value.{Value, out-Value}
use Rattle.mql_mean.specs.declared.value.Value.TheOpen.{Value-F}
use Rattle.mql_meaning.specs.Changes.{either}
use Rattle.mql_meaning.specs.Texts.{number_text, integer_of, double_of}
use Rattle.mql_meaning.specs.StringFunctions.{begins, padded, places_of, point_text}

-- what an argument is as a whole number, as a double, and as a text
abbrev pub whole_at : Value-F Value → ℤ
whole_at (Value-F.Num k x) = x
whole_at (Value-F.Dbl x) = whole_of x
whole_at (Value-F.Str s) = integer_of s
whole_at _ = pos 0

abbrev pub double_at : Value-F Value → Result ℤ FixFault
double_at (Value-F.Num k x) = double_of_whole x
double_at (Value-F.Dbl x) = Ok x
double_at (Value-F.Str s) = Ok (double_of s)
double_at _ = Ok (pos 0)

abbrev pub string_at : Value-F Value → List ℕ
string_at (Value-F.Num k x) = number_text k x
string_at (Value-F.Dbl x) = text_of x
string_at (Value-F.Str s) = s
string_at _ = []

-- a conversion: `-`, `0` and `+`, the width, the precision, the letter, and the text behind it
pub record Form : Type 0 where
  pub left : Bool
  pub zeros : Bool
  pub plus : Bool
  pub width : ℕ
  pub precision : Option ℕ
  pub letter : ℕ
  pub rest : List ℕ

-- a unit is among these
abbrev pub among : ℕ → List ℕ → Bool
among u [] = false
among u (x ∷ xs) = (u == x) || among u xs

-- the part of a text behind its longest beginning of such units
abbrev pub past : (ℕ → Bool) → List ℕ → List ℕ
past p s = drop (length (take_while p s)) s

-- the prefixes of a letter, which say nothing
abbrev pub behind_prefix : List ℕ → List ℕ
behind_prefix s =
    either (begins (codes "I64") s) (drop 3 s)
    (either (begins (codes "ll") s) (drop 2 s)
    (either (begins (codes "h") s || begins (codes "l") s) (drop 1 s) s))

-- the letter of a conversion
abbrev pub lettered : List ℕ → List ℕ → Option ℕ → List ℕ → Option Form
lettered flags width precision [] = None
lettered flags width precision (u ∷ rest) =
    either (nat_le (length width) 2 && among u (codes "diuxXcsf%"))
    (Some (record {
      left = among 45 flags;
      zeros = among 48 flags;
      plus = among 43 flags;
      width = number width;
      precision = precision;
      letter = u;
      rest = rest;
    })) None

-- the precision: one digit to 8 behind a point
abbrev pub precise : List ℕ → List ℕ → List ℕ → Option Form
precise flags width [] = None
precise flags width (d ∷ s) =
    either (nat_le 48 d && nat_le d 56) (lettered flags width (Some (d - 48)) (behind_prefix s)) None

abbrev pub pointed : List ℕ → List ℕ → List ℕ → Option Form
pointed flags width [] = None
pointed flags width (u ∷ s) =
    either (u == 46) (precise flags width s) (lettered flags width None (behind_prefix (u ∷ s)))

-- what stands behind a `%`, where it is a conversion
abbrev pub is_flag : ℕ → Bool
is_flag u = among u (codes "-0+")

abbrev pub form : List ℕ → Option Form
form s =
    let flags = take_while is_flag s in
    let width = take_while is_digit (past is_flag s) in
    pointed flags width (past is_digit (past is_flag s))

-- the sign that is written
abbrev pub sign : Form → ℤ → List ℕ
sign f x = either (is_below_zero x) (45 ∷ []) (either f.plus (43 ∷ []) [])

-- a sign and digits in the width: zeros stand behind the sign
abbrev pub in_width : Form → Bool → List ℕ → List ℕ → List ℕ
in_width f zeros s digits =
    either (zeros && not f.left) (s ++ padded false (f.width - length s) 48 digits)
    (padded f.left f.width 32 (s ++ digits))

-- at least as many digits as the precision says
abbrev pub at_least : Option ℕ → List ℕ → List ℕ
at_least None digits = digits
at_least (Some n) digits = padded false n 48 digits

-- no precision was given
abbrev pub is_free : Option ℕ → Bool
is_free None = true
is_free (Some n) = false

abbrev pub integer : Form → List ℕ → List ℕ → List ℕ
integer f s digits = in_width f (f.zeros && is_free f.precision) s (at_least f.precision digits)

-- a number to the base of 16, with a first letter for ten; of at most so many digits
abbrev pub hex : ℕ → ℕ → ℕ → List ℕ → List ℕ
hex zero ten n rest = rest
hex (suc k) ten n rest =
    let digit = either (nat_lt (n % 16) 10) (48 + n % 16) (ten + n % 16 - 10) in
    elim (n / 16 == 0) [ true ↦ digit ∷ rest | false ↦ hex k ten (n / 16) (digit ∷ rest) ]

-- the precision, or one in its place
abbrev pub precision_or : ℕ → Option ℕ → ℕ
precision_or n None = n
precision_or n (Some p) = p

abbrev pub real : Form → ℕ → ℤ → List ℕ
real f d x = in_width f f.zeros (sign f (places_of d x)) (point_text d (unsigned_abs (places_of d x)))

abbrev pub real_if : Form → Result ℤ FixFault → Result (List ℕ) FixFault
real_if f (Ok x) = Ok (real f (precision_or 6 f.precision) x)
real_if f (Err e) = Err e

-- a text, of which the precision says how much stands
abbrev pub cut : Option ℕ → List ℕ → List ℕ
cut None s = s
cut (Some n) s = take n s

-- what a conversion makes of an argument: `d` and `i` of a `long`, `u`, `x` and `X` of a `ulong`, `c` of a
-- `ushort`, `s` of a string, `f` of a double
abbrev pub written : Form → Value → Result (List ℕ) FixFault
written f v =
    let long = wrapped kind.Long (whole_at (out-Value v)) in
    let ulong = unsigned_abs (wrapped kind.Ulong (whole_at (out-Value v))) in
    either ((f.letter == 100) || (f.letter == 105))
    (Ok (integer f (sign f long) (decimal (unsigned_abs long))))
    (either (f.letter == 117) (Ok (integer f [] (decimal ulong)))
    (either (f.letter == 120) (Ok (integer f [] (hex 16 97 ulong [])))
    (either (f.letter == 88) (Ok (integer f [] (hex 16 65 ulong [])))
    (either (f.letter == 99)
    (Ok (in_width f false [] (unsigned_abs (wrapped kind.Ushort (whole_at (out-Value v))) ∷ [])))
    (either (f.letter == 115) (Ok (in_width f false [] (cut f.precision (string_at (out-Value v)))))
    (real_if f (double_at (out-Value v))))))))

-- a text before another one, where there is one
abbrev pub before : List ℕ → Result (List ℕ) FixFault → Result (List ℕ) FixFault
before s (Ok t) = Ok (s ++ t)
before s (Err e) = Err e

-- one after another
abbrev pub joined : Result (List ℕ) FixFault → Result (List ℕ) FixFault → Result (List ℕ) FixFault
joined (Ok s) r = before s r
joined (Err e) r = Err e

-- a format of at most so many units with arguments: what is no conversion stands as it is, and a conversion
-- without an argument is empty
abbrev pub formatted : ℕ → List ℕ → List Value → Result (List ℕ) FixFault
formatted zero s vs = Ok s
formatted (suc n) [] vs = Ok []
formatted (suc n) (u ∷ us) vs = elim (u == 37) [
  | false ↦ before (u ∷ []) (formatted n us vs)
  | true ↦ elim (form us) [
    | None ↦ before (u ∷ []) (formatted n us vs)
    | Some f ↦ elim (f.letter == 37) [
      | true ↦ before (in_width f false [] (37 ∷ [])) (formatted n f.rest vs)
      | false ↦ elim vs [
        | [] ↦ formatted n f.rest []
        | v ∷ rest ↦ joined (written f v) (formatted n f.rest rest)
      ]
    ]
  ]
]

-- the text of a format with arguments
abbrev pub format : List ℕ → List Value → Result (List ℕ) FixFault
format s vs = formatted (length s) s vs
