-- What the state of a scan leaves open.
use Rattle.std.specs.Prelude.{ℕ, true, false, List, ◌∷◌, Option, None}
use Rattle.mql_spelling.specs.declared.lexeme.Lexeme.{Lexeme}
use Rattle.mql_spelling.specs.declared.lexeme.Lexeme.TheVariants.{Blank, Name, Double, Hexadecimal}
use Rattle.mql_spelling.specs.declared.scan.State.{State}
use Rattle.mql_spelling.specs.declared.scan.State.TheVariants.{Dead, Ended, Word, Marked, Inside, Skipping, Zero, Whole, Point, Fraction, Mark, ExponentSign, Exponent, HexMark, Hex, Slash, LineComment, Block, Star, Continued, ContinuedReturn, One, Two, Three}
use Rattle.mql_spelling.specs.Lexeme.{is_word_unit, is_hex_digit, is_in_line, ends, only, some_only, sign_of, inside, marked, exponent, fraction, whole, zero, point, block, slash, line_feed, continued}
use Rattle.fx8.specs.Decimals.{is_digit}

-- what a piece is whose beginning was read, by the units that follow
abbrev pub after : State → List ℕ → Option Lexeme
after Dead us = None
after (Ended what) us = ends what us
after Word us = only is_word_unit Name us
after (Marked quote) us = marked quote us
after (Inside quote) us = inside quote false us
after (Skipping quote) us = inside quote true us
after Zero us = zero us
after Whole us = whole us
after Point us = point us
after Fraction us = fraction us
after Mark us = exponent us
after ExponentSign us = some_only is_digit Double us
after Exponent us = only is_digit Double us
after HexMark us = some_only is_hex_digit Hexadecimal us
after Hex us = only is_hex_digit Hexadecimal us
after Slash us = slash us
after LineComment us = only is_in_line Blank us
after Block us = block false us
after Star us = block true us
after Continued us = continued us
after ContinuedReturn us = line_feed us
after (One a) us = sign_of (a ∷ us)
after (Two a b) us = sign_of (a ∷ b ∷ us)
after (Three a b c) us = sign_of (a ∷ b ∷ c ∷ us)
