-- What a sign may be.
use Rattle.std.proofs.Common.{◌≡◌, ℕ, ◌<◌, Bool, true, false, ◌&&◌, ◌==◌, List, [], ◌∷◌, length, refl, ap, ◌∙◌, arith, Option, Some, None, bytes_eq, cond, ◌↔◌}
use Rattle.mql_spelling.specs.declared.sign.Sign.{Sign}
use Rattle.mql_spelling.specs.declared.sign.Sign.TheVariants as signs
use Rattle.mql_spelling.specs.declared.sign.TheConstants.{SIGNS}
use Rattle.mql_spelling.specs.Signs.{sign_spelling, spelled_sign}
use Rattle.mql_spelling.proofs.Spelled.{found_by}
use Rattle.mql_spelling.specs.Spelled.{spelled_among}

and_false : (x y : Bool) → y ≡ false → (x && y) ≡ false
and_false true y h = h
and_false false y h = refl

-- no text is spelled by a shorter one
longer : (us vs : List ℕ) → length vs < length us → bytes_eq us vs ≡ false
longer [] vs h = absurd (omega arith)
longer (u ∷ us) [] h = refl
longer (u ∷ us) (v ∷ vs) h = and_false (u == v) (bytes_eq us vs) (longer us vs (omega arith))

-- a sign has at most three units
short : (sign : Sign) → length (sign_spelling sign) < 4
unfolding sign_spelling
short signs.ParenthesisOpen = omega arith
short signs.ParenthesisClose = omega arith
short signs.BracketOpen = omega arith
short signs.BracketClose = omega arith
short signs.BraceOpen = omega arith
short signs.BraceClose = omega arith
short signs.Semicolon = omega arith
short signs.Comma = omega arith
short signs.Dot = omega arith
short signs.Colon = omega arith
short signs.DoubleColon = omega arith
short signs.Question = omega arith
short signs.Tilde = omega arith
short signs.Not = omega arith
short signs.Plus = omega arith
short signs.Minus = omega arith
short signs.Star = omega arith
short signs.Slash = omega arith
short signs.Percent = omega arith
short signs.ShiftLeft = omega arith
short signs.ShiftRight = omega arith
short signs.Less = omega arith
short signs.LessOrEqual = omega arith
short signs.Greater = omega arith
short signs.GreaterOrEqual = omega arith
short signs.Equal = omega arith
short signs.NotEqual = omega arith
short signs.Ampersand = omega arith
short signs.Caret = omega arith
short signs.Bar = omega arith
short signs.And = omega arith
short signs.Or = omega arith
short signs.Assign = omega arith
short signs.PlusAssign = omega arith
short signs.MinusAssign = omega arith
short signs.StarAssign = omega arith
short signs.SlashAssign = omega arith
short signs.PercentAssign = omega arith
short signs.ShiftLeftAssign = omega arith
short signs.ShiftRightAssign = omega arith
short signs.AmpersandAssign = omega arith
short signs.CaretAssign = omega arith
short signs.BarAssign = omega arith
short signs.Increment = omega arith
short signs.Decrement = omega arith
short signs.Hash = omega arith

not_first : (x : Bool) (sign : Sign) (rest : Option Sign) → x ≡ false → rest ≡ None → (cond x (Some sign) rest) ≡ None
not_first x sign rest h e = cc

among_none : (list : List Sign) (us : List ℕ) → 3 < length us → spelled_among sign_spelling list us ≡ None
among_none [] us h = refl
among_none (sign ∷ list) us h = let e = longer us (sign_spelling sign) (omega (arith, short sign, h)) in let rest = among_none list us h in cc

-- no sign has four units
pub four_units : (a b c d : ℕ) (rest : List ℕ) → spelled_sign (a ∷ b ∷ c ∷ d ∷ rest) ≡ None
unfolding spelled_sign
four_units a b c d rest = among_none SIGNS (a ∷ b ∷ c ∷ d ∷ rest) (omega arith)

found : (sign : Sign) → spelled_sign (sign_spelling sign) ≡ Some sign
unfolding sign_spelling spelled_sign
found signs.ParenthesisOpen = refl
found signs.ParenthesisClose = refl
found signs.BracketOpen = refl
found signs.BracketClose = refl
found signs.BraceOpen = refl
found signs.BraceClose = refl
found signs.Semicolon = refl
found signs.Comma = refl
found signs.Dot = refl
found signs.Colon = refl
found signs.DoubleColon = refl
found signs.Question = refl
found signs.Tilde = refl
found signs.Not = refl
found signs.Plus = refl
found signs.Minus = refl
found signs.Star = refl
found signs.Slash = refl
found signs.Percent = refl
found signs.ShiftLeft = refl
found signs.ShiftRight = refl
found signs.Less = refl
found signs.LessOrEqual = refl
found signs.Greater = refl
found signs.GreaterOrEqual = refl
found signs.Equal = refl
found signs.NotEqual = refl
found signs.Ampersand = refl
found signs.Caret = refl
found signs.Bar = refl
found signs.And = refl
found signs.Or = refl
found signs.Assign = refl
found signs.PlusAssign = refl
found signs.MinusAssign = refl
found signs.StarAssign = refl
found signs.SlashAssign = refl
found signs.PercentAssign = refl
found signs.ShiftLeftAssign = refl
found signs.ShiftRightAssign = refl
found signs.AmpersandAssign = refl
found signs.CaretAssign = refl
found signs.BarAssign = refl
found signs.Increment = refl
found signs.Decrement = refl
found signs.Hash = refl

-- a text is a sign exactly where it is that sign's spelling
pub by_spelling : (us : List ℕ) (sign : Sign) → (spelled_sign us ≡ Some sign) ↔ (us ≡ sign_spelling sign)
unfolding spelled_sign
by_spelling us sign = (found_by sign_spelling SIGNS us sign, λ e. ap spelled_sign e ∙ found sign)
