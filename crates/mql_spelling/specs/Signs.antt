-- The signs of the language (MQL5 Reference, Language Basics, Operations and Expressions).
use Rattle.std.specs.Prelude.{ℕ, Bool, ◌==◌, List, codes, Option}
use Rattle.mql_spelling.specs.declared.sign.Sign.{Sign}
use Rattle.mql_spelling.specs.declared.sign.Sign.TheVariants as signs
use Rattle.mql_spelling.specs.declared.sign.TheConstants.{SIGNS}
use Rattle.mql_spelling.specs.Spelled.{spelled_among}

-- how a sign is spelled
unfoldable pub sign_spelling : Sign → List ℕ
sign_spelling signs.ParenthesisOpen = codes "("
sign_spelling signs.ParenthesisClose = codes ")"
sign_spelling signs.BracketOpen = codes "["
sign_spelling signs.BracketClose = codes "]"
sign_spelling signs.BraceOpen = codes "{"
sign_spelling signs.BraceClose = codes "}"
sign_spelling signs.Semicolon = codes ";"
sign_spelling signs.Comma = codes ","
sign_spelling signs.Dot = codes "."
sign_spelling signs.Colon = codes ":"
sign_spelling signs.DoubleColon = codes "::"
sign_spelling signs.Question = codes "?"
sign_spelling signs.Tilde = codes "~"
sign_spelling signs.Not = codes "!"
sign_spelling signs.Plus = codes "+"
sign_spelling signs.Minus = codes "-"
sign_spelling signs.Star = codes "*"
sign_spelling signs.Slash = codes "/"
sign_spelling signs.Percent = codes "%"
sign_spelling signs.ShiftLeft = codes "<<"
sign_spelling signs.ShiftRight = codes ">>"
sign_spelling signs.Less = codes "<"
sign_spelling signs.LessOrEqual = codes "<="
sign_spelling signs.Greater = codes ">"
sign_spelling signs.GreaterOrEqual = codes ">="
sign_spelling signs.Equal = codes "=="
sign_spelling signs.NotEqual = codes "!="
sign_spelling signs.Ampersand = codes "&"
sign_spelling signs.Caret = codes "^"
sign_spelling signs.Bar = codes "|"
sign_spelling signs.And = codes "&&"
sign_spelling signs.Or = codes "||"
sign_spelling signs.Assign = codes "="
sign_spelling signs.PlusAssign = codes "+="
sign_spelling signs.MinusAssign = codes "-="
sign_spelling signs.StarAssign = codes "*="
sign_spelling signs.SlashAssign = codes "/="
sign_spelling signs.PercentAssign = codes "%="
sign_spelling signs.ShiftLeftAssign = codes "<<="
sign_spelling signs.ShiftRightAssign = codes ">>="
sign_spelling signs.AmpersandAssign = codes "&="
sign_spelling signs.CaretAssign = codes "^="
sign_spelling signs.BarAssign = codes "|="
sign_spelling signs.Increment = codes "++"
sign_spelling signs.Decrement = codes "--"
sign_spelling signs.Hash = codes "#"

-- the sign that is spelled so: of two signs no spelling is one, and `SIGNS` is each sign
unfoldable pub spelled_sign : List ℕ → Option Sign
spelled_sign us = spelled_among sign_spelling SIGNS us

-- the number of a sign that a text shows (own)
unfoldable pub sign_number : Sign → ℕ
sign_number signs.ParenthesisOpen = 0
sign_number signs.ParenthesisClose = 1
sign_number signs.BracketOpen = 2
sign_number signs.BracketClose = 3
sign_number signs.BraceOpen = 4
sign_number signs.BraceClose = 5
sign_number signs.Semicolon = 6
sign_number signs.Comma = 7
sign_number signs.Dot = 8
sign_number signs.Colon = 9
sign_number signs.DoubleColon = 10
sign_number signs.Question = 11
sign_number signs.Tilde = 12
sign_number signs.Not = 13
sign_number signs.Plus = 14
sign_number signs.Minus = 15
sign_number signs.Star = 16
sign_number signs.Slash = 17
sign_number signs.Percent = 18
sign_number signs.ShiftLeft = 19
sign_number signs.ShiftRight = 20
sign_number signs.Less = 21
sign_number signs.LessOrEqual = 22
sign_number signs.Greater = 23
sign_number signs.GreaterOrEqual = 24
sign_number signs.Equal = 25
sign_number signs.NotEqual = 26
sign_number signs.Ampersand = 27
sign_number signs.Caret = 28
sign_number signs.Bar = 29
sign_number signs.And = 30
sign_number signs.Or = 31
sign_number signs.Assign = 32
sign_number signs.PlusAssign = 33
sign_number signs.MinusAssign = 34
sign_number signs.StarAssign = 35
sign_number signs.SlashAssign = 36
sign_number signs.PercentAssign = 37
sign_number signs.ShiftLeftAssign = 38
sign_number signs.ShiftRightAssign = 39
sign_number signs.AmpersandAssign = 40
sign_number signs.CaretAssign = 41
sign_number signs.BarAssign = 42
sign_number signs.Increment = 43
sign_number signs.Decrement = 44
sign_number signs.Hash = 45

-- two signs are one
abbrev pub same_sign : Sign → Sign → Bool
same_sign a b = sign_number a == sign_number b
