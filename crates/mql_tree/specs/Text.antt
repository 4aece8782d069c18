-- What text a file of bytes stands for.
use Rattle.std.specs.Prelude.{◌≡◌, ℕ, ◌+◌, ◌*◌, Bool, true, false, ◌&&◌, ◌||◌, nat_lt, List, [], ◌∷◌, length, take, drop, nat_eq, Option, Some, None, Result, Ok, Err, flat_map, chars, if◌then◌else◌}
use Rattle.std.specs.List.{starts_with}
use Rattle.std.specs.Char.Escape.{encode_utf16}
use Rattle.std.specs.Char.Utf16.{is_low_surrogate, is_high_surrogate}
use Rattle.std.specs.Str.Lossy.{utf8_valid_len}
use Rattle.mql_tree.specs.declared.text.TextFault.{TextFault}
use Rattle.mql_tree.specs.declared.text.TextFault.TheVariants.{NotUtf8, OddLength, LoneSurrogate, TooLong, OutOfMemory}
use Rattle.mql_source.specs.Limits.{most_units}

-- the 16-bit units of characters (the Unicode Standard, UTF-16)
abbrev pub units_of : List ℕ → List ℕ
units_of cs = flat_map encode_utf16 cs

-- the text of bytes in UTF-8 that stand behind a mark of so many bytes: the units of the characters before
-- the first byte that is no UTF-8, and there the fault; too many units stand before it (own)
unfoldable pub utf8_text : ℕ → List ℕ → Result (List ℕ) TextFault
utf8_text mark bytes = let valid = utf8_valid_len bytes in let units = units_of (chars (take valid bytes)) in
    if nat_lt most_units (length units) then Err TooLong
    else if nat_lt valid (length bytes) then Err (NotUtf8 (mark + valid))
    else Ok units

-- the whole units of bytes, the low byte first (the Unicode Standard, UTF-16LE)
abbrev pub le_units : List ℕ → List ℕ
le_units (low ∷ high ∷ bytes) = (low + 256 * high) ∷ le_units bytes
le_units (low ∷ []) = []
le_units [] = []

-- a byte is left over (own)
abbrev pub is_odd : List ℕ → Bool
is_odd (low ∷ high ∷ bytes) = is_odd bytes
is_odd (low ∷ []) = true
is_odd [] = false

-- a unit that is one half of a pair (the Unicode Standard, surrogates)
abbrev pub is_surrogate : ℕ → Bool
is_surrogate u = is_high_surrogate u || is_low_surrogate u

-- how many units the character at the front has: none where a surrogate stands there without its partner
-- (own)
abbrev pub front_len : List ℕ → ℕ
front_len [] = 0
front_len (u ∷ []) = if is_surrogate u then 0 else 1
front_len (u ∷ v ∷ us) =
    if is_high_surrogate u && is_low_surrogate v then 2
    else if is_surrogate u then 0
    else 1

-- the place of the first surrogate that has no partner, in units that begin at place k (own)
unfoldable pub lone_from : ℕ → List ℕ → Option ℕ
lone_from k [] = None
lone_from k (u ∷ []) = if is_surrogate u then Some k else None
lone_from k (u ∷ v ∷ us) =
    if is_high_surrogate u && is_low_surrogate v then lone_from (k + 2) us
    else if is_surrogate u then Some k
    else lone_from (k + 1) (v ∷ us)

-- the text of units: the first fault in it, where too many units are a fault at the first one too many (own)
abbrev pub lone_or_long : List ℕ → Option ℕ → Bool → Result (List ℕ) TextFault
lone_or_long units (Some k) odd = if nat_lt most_units k then Err TooLong else Err (LoneSurrogate (2 + 2 * k))
lone_or_long units None odd =
    if nat_lt most_units (length units) then Err TooLong
    else if odd then Err OddLength
    else Ok units

-- the text of bytes in UTF-16 that stand behind their mark (own)
unfoldable pub utf16_text : List ℕ → Result (List ℕ) TextFault
utf16_text bytes = lone_or_long (le_units bytes) (lone_from 0 (le_units bytes)) (is_odd bytes)

-- The text of a file: behind FF FE it is UTF-16 with the low byte first, else UTF-8, of which a mark EF BB BF
-- is dropped (own).
abbrev pub text_of : List ℕ → Result (List ℕ) TextFault
text_of bytes =
    if starts_with nat_eq bytes (255 ∷ 254 ∷ []) then utf16_text (drop 2 bytes)
    else if starts_with nat_eq bytes (239 ∷ 187 ∷ 191 ∷ []) then utf8_text 3 (drop 3 bytes)
    else utf8_text 0 bytes

-- what a call answered is that, unless there was no memory
abbrev pub Answers : Result (List ℕ) TextFault → Result (List ℕ) TextFault → Type 0
Answers (Ok text) wanted = wanted ≡ Ok text
Answers (Err OutOfMemory) wanted = Unit {0}
Answers (Err (NotUtf8 p)) wanted = wanted ≡ Err (NotUtf8 p)
Answers (Err OddLength) wanted = wanted ≡ Err OddLength
Answers (Err (LoneSurrogate p)) wanted = wanted ≡ Err (LoneSurrogate p)
Answers (Err TooLong) wanted = wanted ≡ Err TooLong
