-- What the code takes from the tokens that are left of a file: no definition for readers.
use Rattle.std.specs.Prelude.{◌≡◌, ℕ, ◌+◌, false, List, ◌∷◌, ◌++◌, take, drop, Option, Some, None}
use Rattle.mql_tree.specs.declared.token.Span.{Span}
use Rattle.mql_tree.specs.declared.token.Token as token
use Rattle.mql_preproc.specs.declared.part.Line.{Line}
use Rattle.mql_preproc.specs.Parts.{begins_directive, run_len, line_len}

-- the next token of a run was taken, or none is left of the run
abbrev pub TakesNext : ℕ → List (token.Token × Span) → List (token.Token × Span) → Option (token.Token × Span)
    → Type 0
TakesNext line_before old new None = (new ≡ old) × (run_len line_before old ≡ 0)
TakesNext line_before old new (Some t) = (old ≡ t ∷ new) × (begins_directive line_before t ≡ false)

-- the token that ends a line, where there is one, before the rest
abbrev pub behind_line : Option (token.Token × Span) → List (token.Token × Span) → List (token.Token × Span)
behind_line None rest = rest
behind_line (Some t) rest = t ∷ rest

-- a directive's line was taken
pub record TakesLine (old new : List (token.Token × Span)) (line : Line) : Type 0 where
  pub tokens : line.tokens ≡ take (line_len old) old
  pub rest : new ≡ drop (line_len old + 1) old
  pub whole : old ≡ line.tokens ++ behind_line line.end new
