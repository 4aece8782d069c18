-- The digits of a number to the base of 16, the last one first.
use Rattle.std.proofs.Common.{◌≡◌, ℕ, suc, ◌+◌, ◌-◌, ◌/◌, ◌%◌, ◌<◌, ◌≤◌, ◌==◌, nat_lt, Bool, true, false, List, [], ◌∷◌, ◌++◌, reverse, refl, sym, ap, ◌∙◌, arith}
use Rattle.std.proofs.lemmas.List.{reverse-append}
use Rattle.mql_meaning.specs.Changes.{either}
use Rattle.mql_meaning.specs.Formats.{hex}

abbrev pub digit_of : ℕ → ℕ → ℕ
digit_of ten n = either (nat_lt (n % 16) 10) (48 + n % 16) (ten + n % 16 - 10)

left_places : (places i : ℕ) → i < places → places - i ≡ suc (places - (i + 1))
left_places places i h = omega (arith, h)

turned : (out : List ℕ) (digit : ℕ) → reverse (out ++ (digit ∷ [])) ≡ digit ∷ reverse out
turned out digit = reverse-append out (digit ∷ [])

abbrev goes_on : ℕ → ℕ → ℕ → List ℕ → Bool → List ℕ
goes_on k ten n rest true = digit_of ten n ∷ rest
goes_on k ten n rest false = hex k ten (n / 16) (digit_of ten n ∷ rest)

opened : (k ten n : ℕ) (rest : List ℕ) → hex (suc k) ten n rest ≡ goes_on k ten n rest (n / 16 == 0)
opened k ten n rest = refl

step : (k ten n : ℕ) (rest : List ℕ) → (n / 16 == 0) ≡ false
    → hex (suc k) ten n rest ≡ hex k ten (n / 16) (digit_of ten n ∷ rest)
step k ten n rest e = opened k ten n rest ∙ ap (goes_on k ten n rest) e

stop : (k ten n : ℕ) (rest : List ℕ) → (n / 16 == 0) ≡ true → hex (suc k) ten n rest ≡ digit_of ten n ∷ rest
stop k ten n rest e = opened k ten n rest ∙ ap (goes_on k ten n rest) e

zero_is : (n : ℕ) → n ≡ 0 → (n == 0) ≡ true
zero_is n e = grind (arith, e)

zero_is_not : (n : ℕ) → (n ≡ 0 → ⊥) → (n == 0) ≡ false
zero_is_not n e = grind (arith, e)

-- before the first digit
pub none_yet : (places ten n : ℕ) (out : List ℕ) → out ≡ [] →
    hex (places - 0) ten n (reverse out) ≡ hex places ten n []
none_yet places ten n out e =
    let all : places - 0 ≡ places = omega arith in
    ap (λ (k : ℕ). hex k ten n (reverse out)) all ∙ ap (λ (xs : List ℕ). hex places ten n (reverse xs)) e

-- a digit that another one follows
pub one_more : (places i ten n digit : ℕ) (out all : List ℕ) → i < places → (n / 16 ≡ 0 → ⊥) → digit ≡ digit_of ten n
    → hex (places - i) ten n (reverse out) ≡ all
    → hex (places - (i + 1)) ten (n / 16) (reverse (out ++ (digit ∷ []))) ≡ all
one_more places i ten n digit out all h e d is =
    ap (hex (places - (i + 1)) ten (n / 16)) (turned out digit ∙ ap (λ (u : ℕ). u ∷ reverse out) d)
    ∙ sym (step (places - (i + 1)) ten n (reverse out) (zero_is_not (n / 16) e))
    ∙ ap (λ (k : ℕ). hex k ten n (reverse out)) (sym (left_places places i h)) ∙ is

-- the first digit of the number
pub last_one : (places i ten n digit : ℕ) (out all : List ℕ) → i < places → n / 16 ≡ 0 → digit ≡ digit_of ten n
    → hex (places - i) ten n (reverse out) ≡ all → reverse (out ++ (digit ∷ [])) ≡ all
last_one places i ten n digit out all h e d is =
    turned out digit ∙ ap (λ (u : ℕ). u ∷ reverse out) d
    ∙ sym (stop (places - (i + 1)) ten n (reverse out) (zero_is (n / 16) e))
    ∙ ap (λ (k : ℕ). hex k ten n (reverse out)) (sym (left_places places i h)) ∙ is

-- as many digits as there may be
pub no_more : (places i ten n : ℕ) (out all : List ℕ) → places ≤ i
    → hex (places - i) ten n (reverse out) ≡ all → reverse out ≡ all
no_more places i ten n out all h is =
    let none : places - i ≡ 0 = omega (arith, h) in
    sym (ap (λ (k : ℕ). hex k ten n (reverse out)) none) ∙ is
