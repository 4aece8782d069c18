-- The last piece that a walk over a text meets is the longest.
use Rattle.std.proofs.Common.{◌≡◌, ℕ, zero, suc, ◌+◌, ◌<◌, ◌≤◌, ◌⊎◌, IfSome, inl, inr, List, [], ◌∷◌, length, take, refl, sym, ap, subst, ◌∙◌, arith, Option, Some, None}
use mathlib.Core.Path.{fun_ext}
use Rattle.mql_spelling.specs.declared.lexeme.Lexeme.{Lexeme}
use Rattle.mql_spelling.specs.Longest.{Longest, pick, last_from}

-- a walk from place k on leaves what it had, and nothing is a piece
record Nothing (best : Option (ℕ × Lexeme)) (what : List ℕ → Option Lexeme) (us : List ℕ) (found : Option (ℕ × Lexeme)) : Type 0 where
  same : found ≡ best
  none : (m : ℕ) → m ≤ length us → what (take m us) ≡ None

-- a walk from place k on leaves the longest piece
record Piece (k : ℕ) (what : List ℕ → Option Lexeme) (us : List ℕ) (found : Option (ℕ × Lexeme)) : Type 0 where
  count : ℕ
  piece : Lexeme
  found_is : found ≡ Some (k + count, piece)
  within : count ≤ length us
  is_piece : what (take count us) ≡ Some piece
  longest : (m : ℕ) → count < m → m ≤ length us → what (take m us) ≡ None

none_at_end : (what : List ℕ → Option Lexeme) → what [] ≡ None → (m : ℕ) → m ≤ 0 → what (take m []) ≡ None
none_at_end what e zero le = e
none_at_end what e (suc m) le = absurd (omega arith)

none_before : (what : List ℕ → Option Lexeme) (u : ℕ) (us : List ℕ) → what [] ≡ None → ((m : ℕ) → m ≤ length us → what (u ∷ take m us) ≡ None) → (m : ℕ) → m ≤ length (u ∷ us) → what (take m (u ∷ us)) ≡ None
none_before what u us e h zero le = e
none_before what u us e h (suc m) le = h m (omega arith)

none_longer : (what : List ℕ → Option Lexeme) (u : ℕ) (us : List ℕ) (n : ℕ) → ((m : ℕ) → n < m → m ≤ length us → what (u ∷ take m us) ≡ None) → (m : ℕ) → suc n < m → m ≤ length (u ∷ us) → what (take m (u ∷ us)) ≡ None
none_longer what u us n h zero lt le = absurd (omega arith)
none_longer what u us n h (suc m) lt le = h m (omega arith) (omega arith)

none_more : (what : List ℕ → Option Lexeme) (u : ℕ) (us : List ℕ) → ((m : ℕ) → m ≤ length us → what (u ∷ take m us) ≡ None) → (m : ℕ) → 0 < m → m ≤ length (u ∷ us) → what (take m (u ∷ us)) ≡ None
none_more what u us h zero lt le = absurd (omega arith)
none_more what u us h (suc m) lt le = h m (omega arith)

at_end : (k : ℕ) (best : Option (ℕ × Lexeme)) (what : List ℕ → Option Lexeme) (here : Option Lexeme) → what [] ≡ here → Nothing best what [] (pick k here best) ⊎ Piece k what [] (pick k here best)
at_end k best what None e = inl (record { same = refl; none = none_at_end what e })
at_end k best what (Some piece) e = inr (record { count = 0; piece = piece; found_is = ap (λ (i : ℕ). Some (i, piece)) (omega arith); within = omega arith; is_piece = e; longest = λ m lt le. absurd (omega arith) })

none_yet : (k : ℕ) (best found : Option (ℕ × Lexeme)) (what : List ℕ → Option Lexeme) (u : ℕ) (us : List ℕ) (here : Option Lexeme) → what [] ≡ here → Nothing (pick k here best) (λ rest. what (u ∷ rest)) us found → Nothing best what (u ∷ us) found ⊎ Piece k what (u ∷ us) found
none_yet k best found what u us None e h = inl (record { same = h.same; none = none_before what u us e h.none })
none_yet k best found what u us (Some piece) e h = inr (record { count = 0; piece = piece; found_is = h.same ∙ ap (λ (i : ℕ). Some (i, piece)) (omega arith); within = omega arith; is_piece = e; longest = none_more what u us h.none })

found_from : (k : ℕ) (best : Option (ℕ × Lexeme)) (what : List ℕ → Option Lexeme) (us : List ℕ) → Nothing best what us (last_from k best what us) ⊎ Piece k what us (last_from k best what us)
unfolding last_from
found_from k best what [] = at_end k best what (what []) refl
found_from k best what (u ∷ us) = elim (found_from (k + 1) (pick k (what []) best) (λ rest. what (u ∷ rest)) us) [
  | inl h ↦ none_yet k best _ what u us (what []) refl h
  | inr p ↦ inr (record { count = suc p.count; piece = p.piece; found_is = p.found_is ∙ ap (λ (i : ℕ). Some (i, p.piece)) (omega arith); within = omega (arith, p.within); is_piece = p.is_piece; longest = none_longer what u us p.count p.longest })
]

-- the walk from the beginning finds the longest piece
pub last_is_longest : (what : List ℕ → Option Lexeme) (us : List ℕ) (found : Option (ℕ × Lexeme)) → found ≡ last_from 0 None what us → Longest what us found
last_is_longest what us None e = elim (found_from 0 None what us) [
  | inl h ↦ h.none
  | inr p ↦ absurd (let q : ◌≡◌ {A = Option (ℕ × Lexeme)} None (Some (0 + p.count, p.piece)) = e ∙ p.found_is in cc)
]
last_is_longest what us (Some found) e = elim (found_from 0 None what us) [
  | inl h ↦ absurd (let q : ◌≡◌ {A = Option (ℕ × Lexeme)} (Some found) None = e ∙ h.same in cc)
  | inr p ↦ let q : ◌≡◌ {A = Option (ℕ × Lexeme)} (Some found) (Some (p.count, p.piece)) = e ∙ p.found_is ∙ ap (λ (i : ℕ). Some (i, p.piece)) (omega arith) in
      subst (Longest what us) (sym q) (p.within, p.is_piece, p.longest)
]

-- a walk sees no more of what it asks for than its values
pub last_same : (k : ℕ) (best : Option (ℕ × Lexeme)) (f g : List ℕ → Option Lexeme) (us : List ℕ) → ((rest : List ℕ) → f rest ≡ g rest) → last_from k best f us ≡ last_from k best g us
last_same k best f g us h = ap (λ (what : List ℕ → Option Lexeme). last_from k best what us) (fun_ext h)

-- one step of the walk
pub last_on : (k n : ℕ) (best found : Option (ℕ × Lexeme)) (f g : List ℕ → Option Lexeme) (here : Option Lexeme) (u : ℕ) (us : List ℕ) → n ≡ k + 1 → here ≡ f [] → found ≡ pick k here best → ((rest : List ℕ) → f (u ∷ rest) ≡ g rest) → last_from k best f (u ∷ us) ≡ last_from n found g us
unfolding last_from
last_on k n best found f g here u us e a b h =
    let q : last_from (k + 1) (pick k (f []) best) g us ≡ last_from n found g us = cc in
    last_same (k + 1) (pick k (f []) best) (λ rest. f (u ∷ rest)) g us h ∙ q

-- where no piece begins, the walk may stop
pub last_dead : (k : ℕ) (best : Option (ℕ × Lexeme)) (f : List ℕ → Option Lexeme) (us : List ℕ) → ((rest : List ℕ) → f rest ≡ None) → last_from k best f us ≡ best
unfolding last_from
last_dead k best f [] h = ap (λ (here : Option Lexeme). pick k here best) (h [])
last_dead k best f (u ∷ us) h = last_dead (k + 1) (pick k (f []) best) (λ rest. f (u ∷ rest)) us (λ rest. h (u ∷ rest)) ∙ ap (λ (here : Option Lexeme). pick k here best) (h [])

-- the same step at a list that is seen as its first unit and the rest
pub walk_on : (k whole : ℕ) (best found wanted : Option (ℕ × Lexeme)) (f g : List ℕ → Option Lexeme) (here : Option Lexeme) (u : ℕ) (all us : List ℕ) → all ≡ u ∷ us → (last_from k best f all ≡ wanted) × (k + length all ≡ whole) → here ≡ f [] → found ≡ pick k here best → ((rest : List ℕ) → f (u ∷ rest) ≡ g rest) → (last_from (k + 1) found g us ≡ wanted) × (k + 1 + length us ≡ whole)
walk_on k whole best found wanted f g here u all us e i a b h = (
  sym (last_on k (k + 1) best found f g here u us refl a b h) ∙ ap (λ (xs : List ℕ). last_from k best f xs) (sym e) ∙ i.0,
  let q : length all ≡ length us + 1 = ap length e ∙ omega arith in omega (arith, i.1),
)

-- the walk at its end
pub walk_end : (k : ℕ) (best found wanted : Option (ℕ × Lexeme)) (f : List ℕ → Option Lexeme) (here : Option Lexeme) (all : List ℕ) → length all ≡ 0 → last_from k best f all ≡ wanted → here ≡ f [] → found ≡ pick k here best → found ≡ wanted
unfolding last_from
walk_end k best found wanted f here [] e i a b = b ∙ ap (λ (o : Option Lexeme). pick k o best) a ∙ i
walk_end k best found wanted f here (u ∷ us) e i a b = absurd (omega arith)

-- the walk behind the first unit
pub longest_behind : (what f : List ℕ → Option Lexeme) (u : ℕ) (all us : List ℕ) (found : Option (ℕ × Lexeme)) → all ≡ u ∷ us → what [] ≡ None → ((rest : List ℕ) → what (u ∷ rest) ≡ f rest) → found ≡ last_from 1 None f us → Longest what all found
longest_behind what f u all us found e n h b =
    last_is_longest what all found (b ∙ sym (last_on 0 1 None None what f None u us refl (sym n) refl h) ∙ ap (λ (xs : List ℕ). last_from 0 None what xs) (sym e))

-- in no units nothing is found
pub longest_in_none : (what : List ℕ → Option Lexeme) (us : List ℕ) → length us ≡ 0 → what [] ≡ None → Longest what us None
longest_in_none what [] z e = none_at_end what e
longest_in_none what (u ∷ us) z e = absurd (omega arith)

not_empty : (what : List ℕ → Option Lexeme) (us : List ℕ) (n : ℕ) (piece : Lexeme) → what [] ≡ None → what (take n us) ≡ Some piece → 0 < n
not_empty what us zero piece e h = absurd (let q : ◌≡◌ {A = Option Lexeme} None (Some piece) = sym e ∙ h in cc)
not_empty what us (suc n) piece e h = omega arith

-- a piece has at least one unit
pub longest_goes_on : (what : List ℕ → Option Lexeme) (us : List ℕ) (found : Option (ℕ × Lexeme)) → what [] ≡ None → Longest what us found → IfSome found (λ p. (0 < p.0) × (p.0 ≤ length us))
longest_goes_on what us None e h = tt
longest_goes_on what us (Some found) e h = (not_empty what us found.0 found.1 e h.1, h.0)
