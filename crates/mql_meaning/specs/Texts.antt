-- Values as texts and texts as numbers (MQL5 Reference, Language Basics, Typecasting; Conversion Functions;
-- Print).
use Rattle.std.specs.Prelude.{ℕ, zero, suc, ◌/◌, ◌%◌, ◌==◌, not, Bool, true, false, List, [], ◌∷◌, ◌++◌, length, take, decimal, codes, ℤ, pos, neg_ℤ, unsigned_abs, Option, Some, None}
use Rattle.fx8.specs.declared.int_kind.IntKind.{IntKind}
use Rattle.fx8.specs.declared.int_kind.IntKind.TheVariants as kind
use Rattle.fx8.specs.Integers.{is_zero, wrapped}
use Rattle.fx8.specs.Operators.{bits}
use Rattle.fx8.specs.Decimals.{is_digit, number, double_of_text, text_of, sign_text}
use Rattle.mql_mean.specs.declared.value.Value.{Value, out-Value}
use Rattle.mql_mean.specs.declared.value.Value.TheOpen.{Value-F}
use Rattle.mql_meaning.specs.Changes.{either, then_some}
use Rattle.mql_meaning.specs.Dates.{has_date, moment_text}

-- a whole number in decimal
abbrev pub whole_text : ℤ → List ℕ
whole_text x = sign_text x ++ decimal (unsigned_abs x)

-- a truth
abbrev pub truth_text : Bool → List ℕ
truth_text true = codes "true"
truth_text false = codes "false"

-- a time, as `yyyy.mm.dd hh:mm:ss`; outside the years 1970 to 2999 its number
abbrev pub time_text : ℤ → List ℕ
time_text t = either (has_date t) (moment_text (unsigned_abs t)) (whole_text t)

-- a colour, as the numbers of red, green and blue (own)
abbrev pub color_text : ℕ → List ℕ
color_text c = decimal (c % 256) ++ (44 ∷ decimal (c / 256 % 256)) ++ (44 ∷ decimal (c / 65536 % 256))

-- a number of a kind
abbrev pub number_text : IntKind → ℤ → List ℕ
number_text kind.Bool x = truth_text (not (is_zero x))
number_text kind.Datetime x = time_text x
number_text kind.Color x = color_text (bits kind.Color x)
number_text k x = whole_text x

-- a value; `NULL` is the empty string
abbrev pub text_at : Value-F Value → Option (List ℕ)
text_at (Value-F.Num k x) = Some (number_text k x)
text_at (Value-F.Dbl x) = Some (text_of x)
text_at (Value-F.Str s) = Some s
text_at (Value-F.Ptr zero) = Some []
text_at _ = None

abbrev pub text_of_value : Value → Option (List ℕ)
text_of_value v = text_at (out-Value v)

-- what Print writes: its arguments one behind the other (MQL5 Reference, Common Functions, Print)
abbrev pub printed : List Value → Option (List ℕ)
printed [] = Some []
printed (v ∷ vs) = then_some (text_of_value v) (λ s. then_some (printed vs) (λ t. Some (s ++ t)))

-- a text behind the blanks at its beginning
abbrev pub behind_blanks : List ℕ → List ℕ
behind_blanks [] = []
behind_blanks (u ∷ us) = either (u == 32) (behind_blanks us) (u ∷ us)

-- the digits at the beginning of a text
abbrev pub digits_first : List ℕ → List ℕ
digits_first [] = []
digits_first (u ∷ us) = either (is_digit u) (u ∷ digits_first us) []

-- a sign and digits, else 0
abbrev pub signed_number : List ℕ → ℤ
signed_number [] = pos 0
signed_number (u ∷ us) =
    either (u == 45) (neg_ℤ (pos (number (digits_first us))))
    (either (u == 43) (pos (number (digits_first us))) (pos (number (digits_first (u ∷ us)))))

-- the number that a text begins with, as a `long` (MQL5 Reference, StringToInteger)
abbrev pub integer_of : List ℕ → ℤ
integer_of s = wrapped kind.Long (signed_number (behind_blanks s))

-- the double of the longest beginning, of at most so many units, that is one, else 0
abbrev pub longest_double : ℕ → List ℕ → ℤ
longest_double zero s = pos 0
longest_double (suc n) s = elim (double_of_text (take (suc n) s)) [ Some x ↦ x | None ↦ longest_double n s ]

-- the number that a text begins with, as a `double` (MQL5 Reference, StringToDouble)
abbrev pub double_of : List ℕ → ℤ
double_of s = longest_double (length (behind_blanks s)) (behind_blanks s)
