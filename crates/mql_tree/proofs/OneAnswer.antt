-- A text has one answer.
use Rattle.std.proofs.Common.{◌≡◌, ℕ, zero, suc, ◌<◌, ◌≤◌, inl, inr, List, [], ◌∷◌, take, drop, refl, sym, ap, subst, ◌∙◌, arith, Option, Some, None, Err}
use Rattle.std.proofs.lemmas.Bool.{cases_lt}
use Rattle.mql_spelling.specs.declared.lexeme.Lexeme.{Lexeme}
use Rattle.mql_spelling.specs.declared.lexeme.Mode.{Mode}
use Rattle.mql_tree.specs.declared.token.Token as token
use Rattle.mql_tree.specs.declared.value.PieceFault.{PieceFault}
use Rattle.mql_tree.specs.declared.value.Meaning.{Meaning}
use Rattle.mql_tree.specs.declared.value.Meaning.TheVariants.{Nothing, Token, Fault}
use Rattle.mql_spelling.specs.Lexeme.{lexeme}
use Rattle.mql_spelling.specs.Longest.{Longest}
use Rattle.mql_tree.specs.Pieces.{meaning}
use Rattle.mql_tree.specs.Tokens.{Answer, Spot, behind, mode_behind, span_of, fault_at, prefixed, Lexes, ended, blank, spelled, broken, nothing}

-- a longer piece than the longest is none
not_longer : (what : List ℕ → Option Lexeme) (us : List ℕ) (n m : ℕ) (v w : Lexeme) → Longest what us (Some (n, v)) → Longest what us (Some (m, w)) → n < m → ⊥
not_longer what us n m v w p q lt = let e : ◌≡◌ {A = Option Lexeme} None (Some w) = sym (p.2 m lt q.0) ∙ q.1 in cc

same_length : (what : List ℕ → Option Lexeme) (us : List ℕ) (n m : ℕ) (v w : Lexeme) → Longest what us (Some (n, v)) → Longest what us (Some (m, w)) → n ≡ m
same_length what us n m v w p q = elim (cases_lt n m) [
  | inl lt ↦ absurd (not_longer what us n m v w p q lt)
  | inr le ↦ elim (cases_lt m n) [
    | inl lt ↦ absurd (not_longer what us m n w v q p lt)
    | inr ge ↦ (let e : n ≡ m = omega arith in e)
  ]
]

same_sort : (what : List ℕ → Option Lexeme) (us : List ℕ) (n m : ℕ) (v w : Lexeme) → Longest what us (Some (n, v)) → Longest what us (Some (m, w)) → v ≡ w
same_sort what us n m v w p q =
    let e : ◌≡◌ {A = Option Lexeme} (Some v) (Some w) = sym p.1 ∙ ap (λ (i : ℕ). what (take i us)) (same_length what us n m v w p q) ∙ q.1 in cc

-- the one piece has one meaning
same_meaning : (mode : Mode) (us : List ℕ) (n m : ℕ) (v w : Lexeme) (x y : Meaning) → Longest (lexeme mode) us (Some (n, v)) → Longest (lexeme mode) us (Some (m, w)) → meaning v (take n us) ≡ x → meaning w (take m us) ≡ y → x ≡ y
same_meaning mode us n m v w x y p q a b =
    sym a ∙ ap (λ (i : ℕ). meaning v (take i us)) (same_length (lexeme mode) us n m v w p q) ∙ ap (λ (s : Lexeme). meaning s (take m us)) (same_sort (lexeme mode) us n m v w p q) ∙ b

-- where the longest beginning is a piece, some beginning is
none_and_some : (what : List ℕ → Option Lexeme) (us : List ℕ) (n : ℕ) (v : Lexeme) → Longest what us (Some (n, v)) → Longest what us None → ⊥
none_and_some what us n v p q = let e : ◌≡◌ {A = Option Lexeme} None (Some v) = sym (q n p.0) ∙ p.1 in cc

-- no units are no piece
no_units : (mode : Mode) (n : ℕ) (v : Lexeme) → Longest (lexeme mode) [] (Some (n, v)) → ⊥
unfolding lexeme
no_units mode zero v p = let e : ◌≡◌ {A = Option Lexeme} None (Some v) = p.1 in cc
no_units mode (suc n) v p = let le : suc n ≤ 0 = p.0 in omega arith

-- what follows the piece of one length follows that of the other
moved : (file : ℕ) (spot : Spot) (mode : Mode) (us : List ℕ) (n m : ℕ) (answer : Answer) → n ≡ m → Lexes file (behind spot mode (take m us)) (drop m us) answer → Lexes file (behind spot mode (take n us)) (drop n us) answer
moved file spot mode us n m answer e h = subst (λ (i : ℕ). Lexes file (behind spot mode (take i us)) (drop i us) answer) (sym e) h

same_token : (t s : token.Token) → ◌≡◌ {A = Meaning} (Token t) (Token s) → t ≡ s
same_token t s e = cc

same_fault : (f g : PieceFault) → ◌≡◌ {A = Meaning} (Fault f) (Fault g) → f ≡ g
same_fault f g e = cc

pub one : (file : ℕ) {spot : Spot} {us : List ℕ} {a b : Answer} → Lexes file spot us a → Lexes file spot us b → a ≡ b
one file ended ended = refl
one file {spot = spot} ended (blank n v p z h) = absurd (no_units spot.mode n v p)
one file {spot = spot} ended (spelled n v t p z h) = absurd (no_units spot.mode n v p)
one file {spot = spot} ended (broken n v f p z) = absurd (no_units spot.mode n v p)
one file ended (nothing lt p) = absurd (let q : 0 < 0 = lt in omega arith)
one file {spot = spot} (blank n v p z h) ended = absurd (no_units spot.mode n v p)
one file {spot = spot} {us = us} {b = b} (blank n v p z h) (blank m w q y g) = one file h (moved file spot spot.mode us n m b (same_length (lexeme spot.mode) us n m v w p q) g)
one file {spot = spot} {us = us} (blank n v p z h) (spelled m w t q y g) = absurd (let e = same_meaning spot.mode us n m v w Nothing (Token t) p q z y in cc)
one file {spot = spot} {us = us} (blank n v p z h) (broken m w f q y) = absurd (let e = same_meaning spot.mode us n m v w Nothing (Fault f) p q z y in cc)
one file {spot = spot} {us = us} (blank n v p z h) (nothing lt q) = absurd (none_and_some (lexeme spot.mode) us n v p q)
one file {spot = spot} (spelled n v t p z h) ended = absurd (no_units spot.mode n v p)
one file {spot = spot} {us = us} (spelled n v t p z h) (blank m w q y g) = absurd (let e = same_meaning spot.mode us n m v w (Token t) Nothing p q z y in cc)
one file {spot = spot} {us = us} (spelled {answer = c} n v t p z h) (spelled {answer = d} m w s q y g) =
    let len = same_length (lexeme spot.mode) us n m v w p q in
    let tok = same_token t s (same_meaning spot.mode us n m v w (Token t) (Token s) p q z y) in
    let g' = moved file spot (mode_behind spot.mode t) us n m d len (subst (λ (x : token.Token). Lexes file (behind spot (mode_behind spot.mode x) (take m us)) (drop m us) d) (sym tok) g) in
    let rest = one file h g' in
    ap (λ (x : Answer). prefixed ((t, span_of file spot n) ∷ []) x) rest
    ∙ ap (λ (x : token.Token). prefixed ((x, span_of file spot n) ∷ []) d) tok
    ∙ ap (λ (i : ℕ). prefixed ((s, span_of file spot i) ∷ []) d) len
one file {spot = spot} {us = us} (spelled n v t p z h) (broken m w f q y) = absurd (let e = same_meaning spot.mode us n m v w (Token t) (Fault f) p q z y in cc)
one file {spot = spot} {us = us} (spelled n v t p z h) (nothing lt q) = absurd (none_and_some (lexeme spot.mode) us n v p q)
one file {spot = spot} (broken n v f p z) ended = absurd (no_units spot.mode n v p)
one file {spot = spot} {us = us} (broken n v f p z) (blank m w q y g) = absurd (let e = same_meaning spot.mode us n m v w (Fault f) Nothing p q z y in cc)
one file {spot = spot} {us = us} (broken n v f p z) (spelled m w t q y g) = absurd (let e = same_meaning spot.mode us n m v w (Fault f) (Token t) p q z y in cc)
one file {spot = spot} {us = us} (broken n v f p z) (broken m w g q y) =
    let len = same_length (lexeme spot.mode) us n m v w p q in
    let fault = same_fault f g (same_meaning spot.mode us n m v w (Fault f) (Fault g) p q z y) in
    ap (λ (x : PieceFault). Err (fault_at x (span_of file spot n))) fault ∙ ap (λ (i : ℕ). Err (fault_at g (span_of file spot i))) len
one file {spot = spot} {us = us} (broken n v f p z) (nothing lt q) = absurd (none_and_some (lexeme spot.mode) us n v p q)
one file (nothing lt p) ended = absurd (let q : 0 < 0 = lt in omega arith)
one file {spot = spot} {us = us} (nothing lt p) (blank m w q y g) = absurd (none_and_some (lexeme spot.mode) us m w q p)
one file {spot = spot} {us = us} (nothing lt p) (spelled m w t q y g) = absurd (none_and_some (lexeme spot.mode) us m w q p)
one file {spot = spot} {us = us} (nothing lt p) (broken m w f q y) = absurd (none_and_some (lexeme spot.mode) us m w q p)
one file (nothing lt p) (nothing lt' q) = refl
