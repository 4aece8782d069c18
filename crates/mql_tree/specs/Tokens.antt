-- Which tokens a text has, and where: blanks, comments and spellings in turn, each piece the longest that
-- stands there.
use Rattle.std.specs.Prelude.{◌≡◌, ℕ, ◌+◌, ◌<◌, ◌==◌, List, [], ◌∷◌, ◌++◌, length, take, drop, Some, None, Result, Ok, Err, bytes_eq, codes, count_by, if◌then◌else◌}
use Rattle.mql_spelling.specs.declared.sign.Sign.TheVariants as signs
use Rattle.mql_spelling.specs.declared.lexeme.Lexeme.{Lexeme}
use Rattle.mql_spelling.specs.declared.lexeme.Mode.{Mode}
use Rattle.mql_spelling.specs.declared.lexeme.Mode.TheVariants.{Plain, Hash, Include, Directive}
use Rattle.mql_tree.specs.declared.token.Span.{Span}
use Rattle.mql_tree.specs.declared.token.Token as token
use Rattle.mql_tree.specs.declared.token.Token.TheVariants as tokens
use Rattle.mql_tree.specs.declared.token.LexFault.{LexFault}
use Rattle.mql_tree.specs.declared.token.LexFault.TheVariants.{NoToken, NameTooLong, NumberTooLarge, OpenComment, OpenString, OutOfMemory}
use Rattle.mql_tree.specs.declared.value.PieceFault.{PieceFault}
use Rattle.mql_tree.specs.declared.value.PieceFault.TheVariants as faults
use Rattle.mql_tree.specs.declared.value.Meaning.TheVariants.{Nothing, Token, Fault}
use Rattle.mql_spelling.specs.Lexeme.{lexeme}
use Rattle.mql_spelling.specs.Longest.{Longest}
use Rattle.mql_tree.specs.Pieces.{meaning}

-- where the next piece stands, behind a token: `#` begins a directive, and its line's end ends it
-- (MQL5 Reference, Preprocessor)
abbrev pub behind_hash : token.Token → Mode
behind_hash (tokens.Name name) = if bytes_eq name (codes "include") then Include else Directive
behind_hash tokens.LineEnd = Plain
behind_hash other = Directive

abbrev pub behind_plain : token.Token → Mode
behind_plain (tokens.Sign signs.Hash) = Hash
behind_plain other = Plain

abbrev pub behind_other : token.Token → Mode
behind_other tokens.LineEnd = Plain
behind_other other = Directive

unfoldable pub mode_behind : Mode → token.Token → Mode
mode_behind Plain t = behind_plain t
mode_behind Hash t = behind_hash t
mode_behind Include t = behind_other t
mode_behind Directive t = behind_other t

-- a place in a text: how the piece stands there, its line from 1 on, and the units before it
pub record Spot : Type 0 where
  pub mode : Mode
  pub line : ℕ
  pub place : ℕ

-- how many lines end in a piece
abbrev pub line_ends : List ℕ → ℕ
line_ends us = count_by (λ u. u == 10) us

-- the place behind a piece
abbrev pub behind : Spot → Mode → List ℕ → Spot
behind spot mode piece = record {
  mode = mode;
  line = spot.line + line_ends piece;
  place = spot.place + length piece;
}

-- where a piece stands
abbrev pub span_of : ℕ → Spot → ℕ → Span
span_of file spot count = record {
  file = file;
  line = spot.line;
  start = spot.place;
  end = spot.place + count;
}

-- the fault of a piece, and where
abbrev pub fault_at : PieceFault → Span → LexFault
fault_at faults.NoToken span = NoToken span
fault_at faults.NameTooLong span = NameTooLong span
fault_at faults.NumberTooLarge span = NumberTooLarge span
fault_at faults.OpenComment span = OpenComment span
fault_at faults.OpenString span = OpenString span

-- the tokens, or the first fault
abbrev pub Answer : Type 0
Answer = Result (List (token.Token × Span)) LexFault

-- what is answered with these tokens in front
abbrev pub prefixed : List (token.Token × Span) → Answer → Answer
prefixed front (Ok rest) = Ok (front ++ rest)
prefixed front (Err fault) = Err fault

-- From a spot on the text has these tokens, or this first fault.
pub data Lexes (file : ℕ) : Spot → List ℕ → Answer → Type 0 where
  -- the text ends
  ended : {spot : Spot} → Lexes file spot [] (Ok [])
  -- a blank or a comment
  blank : {spot : Spot} {us : List ℕ} {answer : _} (n : ℕ) (what : Lexeme)
      → Longest (lexeme spot.mode) us (Some (n, what)) → meaning what (take n us) ≡ Nothing
      → Lexes file (behind spot spot.mode (take n us)) (drop n us) answer → Lexes file spot us answer
  -- a token
  spelled : {spot : Spot} {us : List ℕ} {answer : _} (n : ℕ) (what : Lexeme) (t : token.Token)
      → Longest (lexeme spot.mode) us (Some (n, what)) → meaning what (take n us) ≡ Token t
      → Lexes file (behind spot (mode_behind spot.mode t) (take n us)) (drop n us) answer
      → Lexes file spot us (prefixed ((t, span_of file spot n) ∷ []) answer)
  -- a piece that means no token
  broken : {spot : Spot} {us : List ℕ} (n : ℕ) (what : Lexeme) (fault : PieceFault)
      → Longest (lexeme spot.mode) us (Some (n, what)) → meaning what (take n us) ≡ Fault fault
      → Lexes file spot us (Err (fault_at fault (span_of file spot n)))
  -- no piece begins there
  nothing : {spot : Spot} {us : List ℕ} → 0 < length us → Longest (lexeme spot.mode) us None
      → Lexes file spot us (Err (NoToken (span_of file spot 1)))

-- the place at which a text begins
abbrev pub start : Spot
start = record { mode = Plain; line = 1; place = 0 }

-- what a call answered is what the text has, unless there was no memory
abbrev pub IsLexed : ℕ → List ℕ → Result (List (token.Token × Span)) LexFault → Type 0
IsLexed file us (Err OutOfMemory) = Unit {0}
IsLexed file us (Ok list) = Lexes file start us (Ok list)
IsLexed file us (Err (NoToken span)) = Lexes file start us (Err (NoToken span))
IsLexed file us (Err (NameTooLong span)) = Lexes file start us (Err (NameTooLong span))
IsLexed file us (Err (NumberTooLarge span)) = Lexes file start us (Err (NumberTooLarge span))
IsLexed file us (Err (OpenComment span)) = Lexes file start us (Err (OpenComment span))
IsLexed file us (Err (OpenString span)) = Lexes file start us (Err (OpenString span))
