-- What a piece of text means: nothing, a token or a fault.
use Rattle.std.specs.Prelude.{ℕ, ℤ, ◌-◌, ◌^◌, nat_lt, List, [], ◌∷◌, length, take, drop, Option, Some, None, if◌then◌else◌}
use Rattle.fx8.specs.declared.int_kind.IntKind.TheVariants as kinds
use Rattle.mql_spelling.specs.declared.lexeme.Quote.{Quote}
use Rattle.mql_spelling.specs.declared.lexeme.Quote.TheVariants as quotes
use Rattle.mql_spelling.specs.declared.lexeme.Lexeme.{Lexeme}
use Rattle.mql_spelling.specs.declared.lexeme.Lexeme.TheVariants as pieces
use Rattle.mql_spelling.specs.Value.{value_from, spelled}
use Rattle.mql_spelling.specs.Real.{real_value}
use Rattle.mql_spelling.specs.Marked.{date_value, color_value}
use Rattle.mql_tree.specs.declared.token.IncludePlace.TheVariants.{BesideFile, Supplied}
use Rattle.mql_tree.specs.declared.token.Token.TheVariants as tokens
use Rattle.mql_tree.specs.declared.value.PieceFault.TheVariants as faults
use Rattle.mql_tree.specs.declared.value.Meaning.{Meaning}
use Rattle.mql_tree.specs.declared.value.Meaning.TheVariants.{Nothing, Token, Fault}

-- a decimal literal: the first of `int`, `long` and `ulong` that holds it (own)
unfoldable pub decimal : ℕ → Meaning
decimal v =
    if nat_lt v (2 ^ 31) then Token (tokens.Int v kinds.Int)
    else if nat_lt v (2 ^ 63) then Token (tokens.Int v kinds.Long)
    else if nat_lt v (2 ^ 64) then Token (tokens.Int v kinds.Ulong)
    else Fault faults.NumberTooLarge

-- a hexadecimal literal: the first of `int`, `uint`, `long` and `ulong` that holds it (own)
unfoldable pub hexadecimal : ℕ → Meaning
hexadecimal v =
    if nat_lt v (2 ^ 31) then Token (tokens.Int v kinds.Int)
    else if nat_lt v (2 ^ 32) then Token (tokens.Int v kinds.Uint)
    else if nat_lt v (2 ^ 63) then Token (tokens.Int v kinds.Long)
    else if nat_lt v (2 ^ 64) then Token (tokens.Int v kinds.Ulong)
    else Fault faults.NumberTooLarge

-- a name has at most 63 characters (MQL5 Reference, Identifiers)
unfoldable pub named : List ℕ → Meaning
named us = if nat_lt 63 (length us) then Fault faults.NameTooLong else Token (tokens.Name us)

-- what stands between the first unit and the last
abbrev pub between : List ℕ → List ℕ
between us = drop 1 (take (length us - 1) us)

-- a string (MQL5 Reference, String Constants)
abbrev pub string : Option (List ℕ) → Meaning
string None = Fault faults.NoToken
string (Some text) = Token (tokens.Str text)

-- a character: exactly one unit, a `ushort` (MQL5 Reference, Character Constants)
abbrev pub character : Option (List ℕ) → Meaning
character (Some (u ∷ [])) = Token (tokens.Int u kinds.Ushort)
character other = Fault faults.NoToken

-- a double, where the literal is one (MQL5 Reference, Real Types)
abbrev pub real_of : Option ℤ → Meaning
real_of None = Fault faults.NumberTooLarge
real_of (Some units) = Token (tokens.Double units)

-- a color, where the text is one (MQL5 Reference, Color Type)
abbrev pub color_of : Option ℕ → Meaning
color_of None = Fault faults.NoToken
color_of (Some v) = Token (tokens.Int v kinds.Color)

-- a date, where the text is one (MQL5 Reference, Datetime Type)
abbrev pub date_of : Option ℕ → Meaning
date_of None = Fault faults.NoToken
date_of (Some v) = Token (tokens.Int v kinds.Datetime)

-- what a text between quotes means, by the quotes (MQL5 Reference, Including Files)
unfoldable pub quoted : Quote → List ℕ → Meaning
quoted quotes.Str us = string (spelled (between us))
quoted quotes.Char us = character (spelled (between us))
quoted quotes.Date us = date_of (date_value (drop 1 (between us)))
quoted quotes.Color us = color_of (color_value (drop 1 (between us)))
quoted quotes.File us = Token (tokens.IncludeName (between us) BesideFile)
quoted quotes.Library us = Token (tokens.IncludeName (between us) Supplied)

-- what a piece means
unfoldable pub meaning : Lexeme → List ℕ → Meaning
meaning pieces.Blank us = Nothing
meaning pieces.OpenComment us = Fault faults.OpenComment
meaning pieces.Name us = named us
meaning pieces.Decimal us = decimal (value_from 10 0 us)
meaning pieces.Hexadecimal us = hexadecimal (value_from 16 0 (drop 2 us))
meaning pieces.Double us = real_of (real_value us)
meaning (pieces.Quoted quote) us = quoted quote us
meaning pieces.OpenString us = Fault faults.OpenString
meaning (pieces.Sign sign) us = Token (tokens.Sign sign)
meaning pieces.LineEnd us = Token tokens.LineEnd
