-- The longest piece at the beginning of a text.
use Rattle.std.specs.Prelude.{◌≡◌, ℕ, ◌+◌, ◌<◌, ◌≤◌, List, [], ◌∷◌, length, take, Option, Some, None}
use Rattle.mql_spelling.specs.declared.lexeme.Lexeme.{Lexeme}

-- The beginning of so many units is a piece of that sort, and no longer beginning is a piece. None: no
-- beginning is one.
abbrev pub Longest : (List ℕ → Option Lexeme) → List ℕ → Option (ℕ × Lexeme) → Type 0
Longest what us None = (m : ℕ) → m ≤ length us → what (take m us) ≡ None
Longest what us (Some found) = (found.0 ≤ length us) × (what (take found.0 us) ≡ Some found.1)
    × ((m : ℕ) → found.0 < m → m ≤ length us → what (take m us) ≡ None)

-- the last of the pieces that begin there, one unit after another
abbrev pub pick : ℕ → Option Lexeme → Option (ℕ × Lexeme) → Option (ℕ × Lexeme)
pick k (Some what) best = Some (k, what)
pick k None best = best

unfoldable pub last_from : ℕ → Option (ℕ × Lexeme) → (List ℕ → Option Lexeme) → List ℕ → Option (ℕ × Lexeme)
last_from k best what [] = pick k (what []) best
last_from k best what (u ∷ us) = last_from (k + 1) (pick k (what []) best) (λ rest. what (u ∷ rest)) us
