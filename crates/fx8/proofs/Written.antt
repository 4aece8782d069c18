-- What is written for a double.
use Rattle.std.proofs.Common.{◌≡◌, ℕ, suc, ◌+◌, ◌-◌, ◌*◌, ◌/◌, ◌%◌, ◌^◌, ◌<◌, ◌≤◌, min, ◌==◌, false, if◌then◌else◌, List, [], ◌∷◌, ◌++◌, ℤ, decimal, unsigned_abs, length, take, refl, sym, ap, ◌∙◌, arith, subst, append_assoc}
use Rattle.std.proofs.lemmas.Nat.{mod_below}
use Rattle.std.proofs.Math.Nat.{one-le-pow, pow-suc}
use Rattle.std.proofs.lemmas.List.{append-nil, length-take, take-append-le}
use Rattle.fx8.specs.Decimals.{decimals, sign_text, text_of}

-- the first of the decimals from a place on
decimals_at : (place n : ℕ) → place ≤ 8
    → decimals (9 - place) n ≡ (48 + n / 10 ^ (8 - place)) ∷ (if n % 10 ^ (8 - place) == 0 then [] else decimals (8 - place) (n % 10 ^ (8 - place)))
unfolding decimals
decimals_at place n h = let e : 9 - place ≡ suc (8 - place) = omega (arith, h) in ap (λ (k : ℕ). decimals k n) e

next_place : (place : ℕ) → 9 - (place + 1) ≡ 8 - place
next_place place = omega arith

pub small_step : (place rest unit : ℕ) → unit ≡ 10 ^ (8 - place) → rest % unit < 10 ^ (9 - (place + 1))
small_step place rest unit e = rw (next_place place) (rw e (mod_below rest (10 ^ (8 - place)) (one-le-pow (8 - place) 10 (omega arith))))

more_written : (out end rest : List ℕ) (d : ℕ) → (out ++ (d ∷ [])) ++ rest ≡ out ++ (d ∷ rest)
more_written out end rest d = append_assoc out (d ∷ []) rest

pub written_step : (place rest unit : ℕ) (out new end : List ℕ) → place ≤ 8 → unit ≡ 10 ^ (8 - place) → (rest % unit == 0) ≡ false
    → new ≡ out ++ ((48 + rest / unit) ∷ []) → out ++ decimals (9 - place) rest ≡ end → new ++ decimals (9 - (place + 1)) (rest % unit) ≡ end
written_step place rest unit out new end h e more pushed so_far =
    let first = decimals_at place rest h in
    let unit_is : 10 ^ (8 - place) ≡ unit = sym e in
    let all : decimals (9 - place) rest ≡ (48 + rest / unit) ∷ decimals (8 - place) (rest % unit) = first ∙ rw (unit_is, more) refl in
    rw (next_place place, pushed) (append_assoc out ((48 + rest / unit) ∷ []) (decimals (8 - place) (rest % unit)) ∙ ap (λ (xs : List ℕ). out ++ xs) (sym all) ∙ so_far)

pub written_last : (place rest unit : ℕ) (out new end : List ℕ) → place ≤ 8 → unit ≡ 10 ^ (8 - place) → rest % unit ≡ 0
    → new ≡ out ++ ((48 + rest / unit) ∷ []) → out ++ decimals (9 - place) rest ≡ end → new ≡ end
written_last place rest unit out new end h e none pushed so_far =
    let first = decimals_at place rest h in
    let unit_is : 10 ^ (8 - place) ≡ unit = sym e in
    let all : decimals (9 - place) rest ≡ (48 + rest / unit) ∷ [] = first ∙ rw (unit_is, none) refl in
    pushed ∙ ap (λ (xs : List ℕ). out ++ xs) (sym all) ∙ so_far

pub written_all : (place rest : ℕ) (out end : List ℕ) → 9 ≤ place → out ++ decimals (9 - place) rest ≡ end → out ≡ end
unfolding decimals
written_all place rest out end h so_far =
    let none : 9 - place ≡ 0 = omega (arith, h) in
    let last : out ++ decimals 0 rest ≡ end = subst (λ (k : ℕ). out ++ decimals k rest ≡ end) none so_far in
    sym (append-nil out) ∙ last

pub text_joined : (units : ℤ) (size : ℕ) (out signed whole pointed all : List ℕ) → size ≡ unsigned_abs units → signed ≡ out ++ sign_text units
    → whole ≡ signed ++ decimal (size / 10 ^ 8) → pointed ≡ whole ++ (46 ∷ []) → all ≡ pointed ++ decimals 8 (size % 10 ^ 8) → all ≡ out ++ text_of units
unfolding text_of
text_joined units size out signed whole pointed all e s w p a =
    a ∙ ap (λ (xs : List ℕ). xs ++ decimals 8 (size % 10 ^ 8)) (p ∙ ap (λ (xs : List ℕ). xs ++ (46 ∷ [])) (w ∙ ap (λ (xs : List ℕ). xs ++ decimal (size / 10 ^ 8)) s))
    ∙ append_assoc ((out ++ sign_text units) ++ decimal (size / 10 ^ 8)) (46 ∷ []) (decimals 8 (size % 10 ^ 8))
    ∙ ap (λ (xs : List ℕ). xs ++ (46 ∷ decimals 8 (size % 10 ^ 8))) (append_assoc out (sign_text units) (decimal (size / 10 ^ 8)))
    ∙ append_assoc out (sign_text units ++ decimal (size / 10 ^ 8)) (46 ∷ decimals 8 (size % 10 ^ 8))
    ∙ ap (λ (n : ℕ). out ++ ((sign_text units ++ decimal (n / 10 ^ 8)) ++ (46 ∷ decimals 8 (n % 10 ^ 8)))) e

pub few_units : (place rest unit : ℕ) → place ≤ 8 → unit ≡ 10 ^ (8 - place) → rest < 10 ^ (9 - place) → rest < unit * 10
few_units place rest unit h e small =
    let next : 9 - place ≡ suc (8 - place) = omega (arith, h) in
    let power : 10 ^ (9 - place) ≡ 10 ^ (8 - place) * 10 = ap (λ (k : ℕ). 10 ^ k) next ∙ pow-suc 10 (8 - place) in
    omega (arith, e, power, small)

pub digit_pushed : (rest unit d : ℕ) (out new : List ℕ) → new ≡ out ++ (d ∷ []) → d ≡ 48 + rest / unit → new ≡ out ++ ((48 + rest / unit) ∷ [])
digit_pushed rest unit d out new p e = p ∙ ap (λ (k : ℕ). out ++ (k ∷ [])) e

pub kept_more : (front out new more : List ℕ) → take (length front) out ≡ front → new ≡ out ++ more → take (length front) new ≡ front
kept_more front out new more k e =
    let n : min (length front) (length out) ≡ length front = sym (length-take (length front) out) ∙ ap length k in
    let within : length front ≤ length out = omega (arith, n) in
    ap (take (length front)) e ∙ take-append-le (length front) out more within ∙ k
