-- The numbers that digits spell, and the texts that stand between quotes.
use Rattle.std.specs.Prelude.{ℕ, ◌+◌, ◌-◌, ◌*◌, ◌==◌, nat_le, List, [], ◌∷◌, ◌<◌, ◌++◌, Option, Some, None, option_map, if◌then◌else◌}
use Rattle.mql_spelling.specs.declared.escape.Escape.{Escape}
use Rattle.mql_spelling.specs.declared.escape.Escape.TheVariants as escapes
use Rattle.mql_spelling.specs.declared.escape.Added.{Added}
use Rattle.mql_spelling.specs.declared.escape.Added.TheVariants as added
use Rattle.mql_spelling.specs.Lexeme.{is_hex_digit}

-- the value of a digit: `0` to `9`, `a` to `f`, `A` to `F` (MQL5 Reference, Integer Types)
abbrev pub digit_value : ℕ → ℕ
digit_value u = if nat_le u 57 then u - 48 else if nat_le 97 u then u - 87 else u - 55

-- the number that these digits go on with, behind digits that stand for n (MQL5 Reference, Integer Types)
abbrev pub value_from : ℕ → ℕ → List ℕ → ℕ
value_from base n [] = n
value_from base n (u ∷ us) = value_from base (base * n + digit_value u) us

-- the unit that `\` and this unit stand for (MQL5 Reference, Character Constants)
abbrev pub escape_unit : ℕ → Option ℕ
escape_unit u =
    if u == 110 then Some 10
    else if u == 116 then Some 9
    else if u == 114 then Some 13
    else if u == 92 then Some 92
    else if u == 34 then Some 34
    else if u == 39 then Some 39
    else if u == 48 then Some 0
    else None

-- the text with one unit in front
abbrev pub with_front : ℕ → Option (List ℕ) → Option (List ℕ)
with_front u text = option_map (λ us. u ∷ us) text

-- a unit that is no `\` stands for itself
abbrev pub plainly : ℕ → Option (List ℕ) → Option (List ℕ) → Option (List ℕ)
plainly u started plain = if u == 92 then started else with_front u plain

-- behind `\` a unit that stands for another
abbrev pub escaped : Option ℕ → Option (List ℕ) → Option (List ℕ)
escaped None text = None
escaped (Some u) text = with_front u text

-- The text that is spelled between quotes, or None where an escape is none. An escape is `\` and one unit, or
-- `\x` and one to four hexadecimal digits, as many as there are (MQL5 Reference, Character Constants, String
-- Constants).
unfoldable pub text_of : Escape → List ℕ → Option (List ℕ)
text_of escapes.Plain [] = Some []
text_of escapes.Started [] = None
text_of escapes.Hex [] = None
text_of (escapes.One v) [] = Some (v ∷ [])
text_of (escapes.Two v) [] = Some (v ∷ [])
text_of (escapes.Three v) [] = Some (v ∷ [])
text_of (escapes.Four v) [] = Some (v ∷ [])
text_of escapes.Plain (u ∷ us) = plainly u (text_of escapes.Started us) (text_of escapes.Plain us)
text_of escapes.Started (u ∷ us) =
    if u == 120 then text_of escapes.Hex us
    else escaped (escape_unit u) (text_of escapes.Plain us)
text_of escapes.Hex (u ∷ us) = if is_hex_digit u then text_of (escapes.One (digit_value u)) us else None
text_of (escapes.One v) (u ∷ us) = if is_hex_digit u then text_of (escapes.Two (16 * v + digit_value u)) us
    else with_front v (plainly u (text_of escapes.Started us) (text_of escapes.Plain us))
text_of (escapes.Two v) (u ∷ us) = if is_hex_digit u then text_of (escapes.Three (16 * v + digit_value u)) us
    else with_front v (plainly u (text_of escapes.Started us) (text_of escapes.Plain us))
text_of (escapes.Three v) (u ∷ us) = if is_hex_digit u then text_of (escapes.Four (16 * v + digit_value u)) us
    else with_front v (plainly u (text_of escapes.Started us) (text_of escapes.Plain us))
text_of (escapes.Four v) (u ∷ us) =
    with_front v (plainly u (text_of escapes.Started us) (text_of escapes.Plain us))

-- the text that is spelled by these units between quotes (MQL5 Reference, Character Constants, String
-- Constants)
abbrev pub spelled : List ℕ → Option (List ℕ)
spelled us = text_of escapes.Plain us

-- what a step adds to a text: the units in front, or no text at all
abbrev pub adding : Added → Option (List ℕ) → Option (List ℕ)
adding added.Nothing text = text
adding (added.One u) text = with_front u text
adding (added.Two u v) text = with_front u (with_front v text)
adding added.Bad text = None

-- an escape's number fits its digits
abbrev pub IsInRange : Escape → Type 0
IsInRange escapes.Plain = Unit {0}
IsInRange escapes.Started = Unit {0}
IsInRange escapes.Hex = Unit {0}
IsInRange (escapes.One v) = v < 16
IsInRange (escapes.Two v) = v < 256
IsInRange (escapes.Three v) = v < 4096
IsInRange (escapes.Four v) = Unit {0}

-- a text behind what was read of it
abbrev pub put_behind : List ℕ → Option (List ℕ) → Option (List ℕ)
put_behind front text = option_map (λ us. front ++ us) text
