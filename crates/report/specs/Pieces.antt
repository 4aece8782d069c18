-- Pieces that a text gains.
use Rattle.std.specs.Prelude.{◌≡◌, ℕ, List, ◌++◌}

-- the text grew by a piece of which this is true
pub record Appends (P : List ℕ → Type 0) (old new : List ℕ) : Type 0 where
  pub piece : List ℕ
  pub is : P piece
  pub grew : new ≡ old ++ piece
