-- What a piece of text is, by its units. Each word says it of a whole piece; how the longest piece is found
-- is not said here.
use Rattle.std.specs.Prelude.{ℕ, Bool, true, false, not, ◌==◌, ◌&&◌, ◌||◌, nat_le, List, [], ◌∷◌, Option, Some, None, option_map, if◌then◌else◌}
use Rattle.mql_spelling.specs.declared.lexeme.Quote.{Quote}
use Rattle.mql_spelling.specs.declared.lexeme.Quote.TheVariants.{Str, Char, Date, Color, File, Library}
use Rattle.mql_spelling.specs.declared.lexeme.Lexeme.{Lexeme}
use Rattle.mql_spelling.specs.declared.lexeme.Lexeme.TheVariants.{Blank, OpenComment, Name, Decimal, Hexadecimal, Double, Quoted, OpenString, Sign, LineEnd}
use Rattle.mql_spelling.specs.declared.lexeme.Mode.{Mode}
use Rattle.mql_spelling.specs.declared.lexeme.Mode.TheVariants.{Plain, Hash, Include, Directive}
use Rattle.mql_spelling.specs.Signs.{spelled_sign}
use Rattle.fx8.specs.Decimals.{is_digit}

-- a hexadecimal digit (MQL5 Reference, Integer Types)
abbrev pub is_hex_digit : ℕ → Bool
is_hex_digit u = is_digit u || (nat_le 97 u && nat_le u 102) || (nat_le 65 u && nat_le u 70)

-- an ASCII letter or `_` (MQL5 Reference, Identifiers)
abbrev pub is_letter : ℕ → Bool
is_letter u = (nat_le 97 u && nat_le u 122) || (nat_le 65 u && nat_le u 90) || (u == 95)

-- what a name goes on with (MQL5 Reference, Identifiers)
abbrev pub is_word_unit : ℕ → Bool
is_word_unit u = is_letter u || is_digit u

-- a blank, a tab or a carriage return (own)
abbrev pub is_blank : ℕ → Bool
is_blank u = (u == 32) || (u == 9) || (u == 13)

-- no unit of a line's end (own)
abbrev pub is_in_line : ℕ → Bool
is_in_line u = not (u == 10)

-- `e` or `E`, which an exponent begins with (MQL5 Reference, Real Types)
abbrev pub is_exponent_mark : ℕ → Bool
is_exponent_mark u = (u == 101) || (u == 69)

-- nothing follows
abbrev pub ends : Lexeme → List ℕ → Option Lexeme
ends what [] = Some what
ends what (u ∷ us) = None

-- only units of this sort follow, or none
unfoldable pub only : (ℕ → Bool) → Lexeme → List ℕ → Option Lexeme
only sort what [] = Some what
only sort what (u ∷ us) = if sort u then only sort what us else None

-- units of this sort follow, at least one
abbrev pub some_only : (ℕ → Bool) → Lexeme → List ℕ → Option Lexeme
some_only sort what [] = None
some_only sort what (u ∷ us) = if sort u then only sort what us else None

-- the sign that a piece is (MQL5 Reference, Operations and Expressions)
abbrev pub sign_of : List ℕ → Option Lexeme
sign_of us = option_map Sign (spelled_sign us)

-- the unit that closes a text between quotes (MQL5 Reference, Character Constants, String Constants; own for
-- files)
abbrev pub close_of : Quote → ℕ
close_of Str = 34
close_of Char = 39
close_of Date = 39
close_of Color = 39
close_of File = 34
close_of Library = 62

-- in it `\` takes the next unit with it (MQL5 Reference, Character Constants, String Constants)
abbrev pub has_escapes : Quote → Bool
has_escapes Str = true
has_escapes Char = true
has_escapes Date = false
has_escapes Color = false
has_escapes File = false
has_escapes Library = false

-- what it is as long as it is not closed: a string is open, and of the others no piece is one (own)
abbrev pub unclosed : Quote → Option Lexeme
unclosed Str = Some OpenString
unclosed Char = None
unclosed Date = None
unclosed Color = None
unclosed File = Some OpenString
unclosed Library = Some OpenString

-- Behind the opening quote: no line ends in it, a `\` takes the next unit with it, and the closing quote is
-- its last unit. Where skip is true, a `\` stands directly before (MQL5 Reference, String Constants).
unfoldable pub inside : Quote → Bool → List ℕ → Option Lexeme
inside quote skip [] = unclosed quote
inside quote skip (u ∷ us) =
    if u == 10 then None
    else if skip then inside quote false us
    else if u == close_of quote then ends (Quoted quote) us
    else inside quote (has_escapes quote && (u == 92)) us

-- behind a first `D` or `C`: a date or a color, else a name (MQL5 Reference, Datetime Type, Color Type)
abbrev pub marked : Quote → List ℕ → Option Lexeme
marked quote [] = Some Name
marked quote (u ∷ us) = if u == 39 then inside quote false us else only is_word_unit Name (u ∷ us)

-- behind the mark of an exponent: a sign, or none, and digits (MQL5 Reference, Real Types)
abbrev pub exponent : List ℕ → Option Lexeme
exponent [] = None
exponent (u ∷ us) =
    if (u == 43) || (u == 45) then some_only is_digit Double us
    else some_only is_digit Double (u ∷ us)

-- behind the point of a double: digits, or none, and an exponent, or none (MQL5 Reference, Real Types)
unfoldable pub fraction : List ℕ → Option Lexeme
fraction [] = Some Double
fraction (u ∷ us) = if is_digit u then fraction us else if is_exponent_mark u then exponent us else None

-- behind the first digit: more digits, and a point or an exponent where it is a double (MQL5 Reference,
-- Integer Types, Real Types)
unfoldable pub whole : List ℕ → Option Lexeme
whole [] = Some Decimal
whole (u ∷ us) =
    if is_digit u then whole us
    else if u == 46 then fraction us
    else if is_exponent_mark u then exponent us
    else None

-- behind a first `0`: `x` and hexadecimal digits, or as behind any digit (MQL5 Reference, Integer Types)
abbrev pub zero : List ℕ → Option Lexeme
zero [] = Some Decimal
zero (u ∷ us) = if (u == 120) || (u == 88) then some_only is_hex_digit Hexadecimal us else whole (u ∷ us)

-- behind a first point: a double's digits, or nothing, since it is a sign (MQL5 Reference, Real Types)
abbrev pub point : List ℕ → Option Lexeme
point [] = sign_of (46 ∷ [])
point (u ∷ us) = if is_digit u then fraction us else sign_of (46 ∷ u ∷ us)

-- Behind `/*`: the first `*/` is its end. Where star is true, a `*` stands directly before (MQL5 Reference,
-- Comments).
unfoldable pub block : Bool → List ℕ → Option Lexeme
block star [] = Some OpenComment
block star (u ∷ us) = if star && (u == 47) then ends Blank us else block (u == 42) us

-- behind a first `/`: a comment, or a sign (MQL5 Reference, Comments)
abbrev pub slash : List ℕ → Option Lexeme
slash [] = sign_of (47 ∷ [])
slash (u ∷ us) =
    if u == 47 then only is_in_line Blank us
    else if u == 42 then block false us
    else sign_of (47 ∷ u ∷ us)

-- a line end and nothing more
abbrev pub line_feed : List ℕ → Option Lexeme
line_feed [] = None
line_feed (u ∷ us) = if u == 10 then ends Blank us else None

-- behind a `\` that continues a directive: the end of the line (own)
abbrev pub continued : List ℕ → Option Lexeme
continued [] = None
continued (u ∷ us) = if u == 13 then line_feed us else line_feed (u ∷ us)

-- a line end: in a directive it ends the directive, elsewhere it is a blank (MQL5 Reference, Preprocessor)
abbrev pub line_end : Mode → Lexeme
line_end Plain = Blank
line_end Hash = LineEnd
line_end Include = LineEnd
line_end Directive = LineEnd

-- only in a directive a `\` may stand at the line's end (own)
abbrev pub backslash : Mode → List ℕ → Option Lexeme
backslash Plain us = None
backslash Hash us = continued us
backslash Include us = continued us
backslash Directive us = continued us

-- a quotation mark begins a string, and directly behind `#include` the name of a file (MQL5 Reference,
-- Including Files)
abbrev pub quotation : Mode → Quote
quotation Plain = Str
quotation Hash = Str
quotation Include = File
quotation Directive = Str

-- `<` begins a sign, and directly behind `#include` the name of a file of the library (MQL5 Reference,
-- Including Files)
abbrev pub angle : Mode → List ℕ → Option Lexeme
angle Plain us = sign_of (60 ∷ us)
angle Hash us = sign_of (60 ∷ us)
angle Include us = inside Library false us
angle Directive us = sign_of (60 ∷ us)

-- What a piece of text is where it stands, or None. Its first unit tells its class.
unfoldable pub lexeme : Mode → List ℕ → Option Lexeme
lexeme mode [] = None
lexeme mode (u ∷ us) =
    if u == 68 then marked Date us
    else if u == 67 then marked Color us
    else if is_letter u then only is_word_unit Name us
    else if u == 48 then zero us
    else if is_digit u then whole us
    else if u == 46 then point us
    else if u == 34 then inside (quotation mode) false us
    else if u == 39 then inside Char false us
    else if u == 47 then slash us
    else if u == 60 then angle mode us
    else if u == 10 then ends (line_end mode) us
    else if u == 92 then backslash mode us
    else if is_blank u then ends Blank us
    else sign_of (u ∷ us)
