-- A text is read piece by piece.
use Rattle.std.proofs.Common.{◌≡◌, ℕ, ◌+◌, ◌-◌, ◌<◌, ◌≤◌, List, [], ◌∷◌, ◌++◌, length, take, drop, refl, sym, ap, subst, ◌∙◌, arith, append_assoc, append-nil, Some, None, Ok, Err}
use Rattle.std.proofs.lemmas.List.{length-drop}
use Rattle.mql_spelling.specs.declared.lexeme.Lexeme.{Lexeme}
use Rattle.mql_spelling.specs.declared.lexeme.Mode.{Mode}
use Rattle.mql_tree.specs.declared.token.Span.{Span}
use Rattle.mql_tree.specs.declared.token.Token as token
use Rattle.mql_tree.specs.declared.token.LexFault.{LexFault}
use Rattle.mql_tree.specs.declared.token.LexFault.TheVariants.{NoToken}
use Rattle.mql_tree.specs.declared.value.PieceFault.{PieceFault}
use Rattle.mql_tree.specs.declared.value.PieceFault.TheVariants as faults
use Rattle.mql_tree.specs.declared.value.Meaning.{Meaning}
use Rattle.mql_tree.specs.declared.value.Meaning.TheVariants.{Nothing, Token, Fault}
use Rattle.mql_spelling.specs.Lexeme.{lexeme}
use Rattle.mql_spelling.specs.Longest.{Longest}
use Rattle.mql_tree.specs.Pieces.{meaning}
use Rattle.mql_tree.specs.Tokens.{Answer, Spot, behind, mode_behind, line_ends, span_of, fault_at, prefixed, start, Lexes, ended, blank, spelled, broken, nothing, IsLexed}

-- what is read from the spot on, behind these tokens, is what is read of the whole text
pub record Reads (file : ℕ) (text : List ℕ) (tokens : List (token.Token × Span)) (spot : Spot) (rest : List ℕ) : Type 0 where
  pub goes : (answer : Answer) → Lexes file spot rest answer → Lexes file start text (prefixed tokens answer)
  pub places : spot.place + length rest ≡ length text
  pub lines : spot.line ≤ spot.place + 1

none_before : (answer : Answer) → prefixed [] answer ≡ answer
none_before (Ok rest) = refl
none_before (Err fault) = refl

pub begun : (file : ℕ) (text : List ℕ) → Reads file text [] start text
begun file text = record { goes = λ answer h. subst (Lexes file start text) (sym (none_before answer)) h; places = omega arith; lines = omega arith }

one_more : (tokens : List (token.Token × Span)) (t : token.Token × Span) (answer : Answer) → prefixed tokens (prefixed (t ∷ []) answer) ≡ prefixed (tokens ++ t ∷ []) answer
one_more tokens t (Ok rest) = ap (λ (list : List (token.Token × Span)). Ok list) (sym (append_assoc tokens (t ∷ []) rest))
one_more tokens t (Err fault) = refl

-- a place by its parts
abbrev pub spot_at : Mode → ℕ → ℕ → Spot
spot_at mode line place = record { mode = mode; line = line; place = place }

same_spot : (mode : Mode) (line line' place place' : ℕ) → line ≡ line' → place ≡ place' → spot_at mode line place ≡ spot_at mode line' place'
same_spot mode line line' place place' e f = ap (λ (x : ℕ). spot_at mode x place) e ∙ ap (λ (x : ℕ). spot_at mode line' x) f

-- what was read of a piece, and what is left
pub record Cut (mode : Mode) (rest piece others : List ℕ) (n ends : ℕ) (what : Lexeme) : Type 0 where
  pub longest : Longest (lexeme mode) rest (Some (n, what))
  pub piece_is : piece ≡ take n rest
  pub others_is : others ≡ drop n rest
  pub length_is : length piece ≡ n
  pub ends_is : ends ≡ line_ends piece
  pub ends_within : ends ≤ length piece

-- what follows the piece is what follows it by its parts
follows : (file : ℕ) (mode next : Mode) (line place : ℕ) (rest piece others : List ℕ) (n ends : ℕ) (what : Lexeme) → Cut mode rest piece others n ends what → (answer : Answer) → Lexes file (spot_at next (line + ends) (place + n)) others answer → Lexes file (behind (spot_at mode line place) next (take n rest)) (drop n rest) answer
follows file mode next line place rest piece others n ends what cut answer h =
    let s : spot_at next (line + ends) (place + n) ≡ behind (spot_at mode line place) next piece =
    same_spot next (line + ends) (line + line_ends piece) (place + n) (place + length piece) (ap (λ (x : ℕ). line + x) cut.ends_is) (ap (λ (x : ℕ). place + x) (sym cut.length_is)) in
    let at_piece : Lexes file (behind (spot_at mode line place) next piece) others answer = subst (λ (spot : Spot). Lexes file spot others answer) s h in
    let at_others : Lexes file (behind (spot_at mode line place) next piece) (drop n rest) answer = subst (λ (us : List ℕ). Lexes file (behind (spot_at mode line place) next piece) us answer) cut.others_is at_piece in
    subst (λ (us : List ℕ). Lexes file (behind (spot_at mode line place) next us) (drop n rest) answer) cut.piece_is at_others

len_left : (n : ℕ) (rest others : List ℕ) → others ≡ drop n rest → length others ≡ length rest - n
len_left n rest others e = ap length e ∙ length-drop n rest

pub on_blank : (file : ℕ) (text : List ℕ) (tokens : List (token.Token × Span)) (mode : Mode) (line place : ℕ) (rest piece others : List ℕ) (n ends : ℕ) (what : Lexeme) (m : Meaning) → Reads file text tokens (spot_at mode line place) rest → Cut mode rest piece others n ends what → n ≤ length rest → m ≡ meaning what piece → m ≡ Nothing → Reads file text tokens (spot_at mode (line + ends) (place + n)) others
on_blank file text tokens mode line place rest piece others n ends what m r cut within e z = record {
  goes = λ answer h. r.goes answer (blank n what cut.longest (ap (meaning what) (sym cut.piece_is) ∙ sym e ∙ z) (follows file mode mode line place rest piece others n ends what cut answer h));
  places = omega (arith, len_left n rest others cut.others_is, r.places);
  lines = omega (arith, cut.ends_within, cut.length_is, r.lines);
}

pub on_token : (file : ℕ) (text : List ℕ) (tokens after : List (token.Token × Span)) (mode next : Mode) (line place : ℕ) (rest piece others : List ℕ) (n ends : ℕ) (what : Lexeme) (m : Meaning) (t : token.Token) → Reads file text tokens (spot_at mode line place) rest → Cut mode rest piece others n ends what → n ≤ length rest → m ≡ meaning what piece → m ≡ Token t → next ≡ mode_behind mode t → after ≡ tokens ++ (t, span_of file (spot_at mode line place) n) ∷ [] → Reads file text after (spot_at next (line + ends) (place + n)) others
on_token file text tokens after mode next line place rest piece others n ends what m t r cut within e z q a = record {
  goes = λ answer h.
      let step = spelled n what t cut.longest (ap (meaning what) (sym cut.piece_is) ∙ sym e ∙ z) (subst (λ (x : Mode). Lexes file (behind (spot_at mode line place) x (take n rest)) (drop n rest) answer) q (follows file mode next line place rest piece others n ends what cut answer h)) in
      let whole = r.goes _ step in
      subst (λ (list : List (token.Token × Span)). Lexes file start text (prefixed list answer)) (sym a) (subst (Lexes file start text) (one_more tokens (t, span_of file (spot_at mode line place) n) answer) whole);
  places = omega (arith, len_left n rest others cut.others_is, r.places);
  lines = omega (arith, cut.ends_within, cut.length_is, r.lines);
}

-- a fault is told
told : (file : ℕ) (text : List ℕ) (fault : PieceFault) (span : Span) → Lexes file start text (Err (fault_at fault span)) → IsLexed file text (Err (fault_at fault span))
told file text faults.NoToken span h = h
told file text faults.NameTooLong span h = h
told file text faults.NumberTooLarge span h = h
told file text faults.OpenComment span h = h
told file text faults.OpenString span h = h

pub on_fault : (file : ℕ) (text : List ℕ) (tokens : List (token.Token × Span)) (mode : Mode) (line place : ℕ) (rest piece : List ℕ) (n : ℕ) (what : Lexeme) (m : Meaning) (fault : PieceFault) (answer : LexFault) → Reads file text tokens (spot_at mode line place) rest → Longest (lexeme mode) rest (Some (n, what)) → piece ≡ take n rest → m ≡ meaning what piece → m ≡ Fault fault → answer ≡ fault_at fault (span_of file (spot_at mode line place) n) → IsLexed file text (Err answer)
on_fault file text tokens mode line place rest piece n what m fault answer r lg p e z a =
    let step = broken n what fault lg (ap (meaning what) (sym p) ∙ sym e ∙ z) in
    subst (λ (x : LexFault). IsLexed file text (Err x)) (sym a) (told file text fault (span_of file (spot_at mode line place) n) (r.goes _ step))

pub on_nothing : (file : ℕ) (text : List ℕ) (tokens : List (token.Token × Span)) (mode : Mode) (line place : ℕ) (rest : List ℕ) → Reads file text tokens (spot_at mode line place) rest → 0 < length rest → Longest (lexeme mode) rest None → Lexes file start text (Err (NoToken (span_of file (spot_at mode line place) 1)))
on_nothing file text tokens mode line place rest r h lg = r.goes _ (nothing h lg)

pub on_end : (file : ℕ) (text : List ℕ) (tokens : List (token.Token × Span)) (spot : Spot) (rest : List ℕ) → Reads file text tokens spot rest → length rest ≡ 0 → Lexes file start text (Ok tokens)
on_end file text tokens spot [] r h = subst (λ (list : List (token.Token × Span)). Lexes file start text (Ok list)) (append-nil tokens) (r.goes (Ok []) ended)
on_end file text tokens spot (u ∷ us) r h = absurd (omega arith)
