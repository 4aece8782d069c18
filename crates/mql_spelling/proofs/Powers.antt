-- Numbers with zeros at their end.
use Rattle.std.proofs.Common.{◌≡◌, ℕ, ℤ, zero, suc, ◌+◌, ◌-◌, ◌*◌, ◌^◌, ◌<◌, ◌≤◌, inl, inr, Bool, cond, nat_le, min, arith, subst, refl, sym, ap, ◌∙◌, List, [], ◌∷◌, length, take, slice_index, Option, Some, None, option_map, MatchOption}
use Rattle.std.proofs.Math.Nat.{pow-le-pow_right, le-mul_of_pos_right, one-le-pow}
use Rattle.std.proofs.lemmas.Bool.{cases_lt}
use Rattle.std.proofs.lemmas.List.{take_min}
use Rattle.mql_spelling.specs.Value.{value_from}
use Rattle.mql_spelling.specs.Real.{half, kept, digits_of, exponent_part, digits_len, exponent_digits, places_kept, double_of, real_value}
use Rattle.fx8.specs.Decimals.{has_minus}

-- a power that does not fit, times a number that is not 0
pub no_fit : (value power : ℕ) → (value ≡ 0 → ⊥) → 2 ^ 64 ≤ power → 2 ^ 64 ≤ value * power
no_fit value power n h =
    let q : power ≤ power * value = le-mul_of_pos_right power (omega arith) in
    omega arith

-- twenty zeros and more
pub no_fit_20 : (value up e : ℕ) → (value ≡ 0 → ⊥) → up ≡ 20 → up ≡ min e 20 → 2 ^ 64 ≤ value * 10 ^ e
no_fit_20 value up e n u h =
    let pos10 : 0 < 10 = omega arith in
    let far : 20 ≤ e = omega arith in
    let p : 10 ^ 20 ≤ 10 ^ e = pow-le-pow_right {n = 10} pos10 {i = 20} {j = e} far in
    no_fit value (10 ^ e) n (omega arith)

-- below twenty the number of zeros is the one that is named
pub exactly : (up e : ℕ) → (up ≡ 20 → ⊥) → up ≡ min e 20 → up ≡ e
exactly up e n h = omega arith

-- past the end of the digits stands no digit
past_end : (digits : List ℕ) (k : ℕ) → length digits ≤ k → slice_index digits k ≡ 0
past_end [] k h = refl
past_end (d ∷ digits) zero h = absurd (omega arith)
past_end (d ∷ digits) (suc k) h = past_end digits k (omega arith)

same_half : (digits : List ℕ) (k count : ℕ) → count ≡ min k (length digits) → half digits count ≡ half digits k
same_half digits k count h =
    elim (cases_lt k (length digits)) as (λ _. half digits count ≡ half digits k) [
      | inl lt ↦ (let q : count ≡ k = omega arith in ap (half digits) q)
      | inr le ↦
          (let a : slice_index digits count ≡ 0 = past_end digits count (omega arith) in
          let b : slice_index digits k ≡ 0 = past_end digits k le in
          ap (λ (d : ℕ). cond (nat_le 53 d) 1 0) (a ∙ sym b))
    ]

same_kept : (digits front : List ℕ) (places k count : ℕ) → places ≡ min k (length digits + 20) → count ≡ min places (length digits) → front ≡ take count digits → kept digits (Some k) ≡ value_from 10 0 front * 10 ^ (k - length digits) + half digits count
unfolding kept
same_kept digits front places k count p c f =
    let n : count ≡ min k (length digits) = omega arith in
    let t : front ≡ take k digits = f ∙ ap (λ (i : ℕ). take i digits) n ∙ take_min k digits in
    ap (λ (us : List ℕ). value_from 10 0 us * 10 ^ (k - length digits) + half digits k) (sym t) ∙ ap (λ (h : ℕ). value_from 10 0 front * 10 ^ (k - length digits) + h) (sym (same_half digits k count n))

pub kept_none : (digits front : List ℕ) (places k count : ℕ) → places ≡ min k (length digits + 20) → count ≡ min places (length digits) → front ≡ take count digits → 2 ^ 64 ≤ value_from 10 0 front → 2 ^ 64 ≤ kept digits (Some k)
kept_none digits front places k count p c f h =
    let e = same_kept digits front places k count p c f in
    let q : value_from 10 0 front ≤ value_from 10 0 front * 10 ^ (k - length digits) = le-mul_of_pos_right (value_from 10 0 front) (one-le-pow (k - length digits) 10 (omega arith)) in
    omega arith

pub kept_high : (digits front : List ℕ) (places k count value : ℕ) → places ≡ min k (length digits + 20) → count ≡ min places (length digits) → front ≡ take count digits → value ≡ value_from 10 0 front → 2 ^ 64 ≤ value * 10 ^ (k - length digits) → 2 ^ 64 ≤ kept digits (Some k)
kept_high digits front places k count value p c f v h =
    let e = same_kept digits front places k count p c f ∙ ap (λ (x : ℕ). x * 10 ^ (k - length digits) + half digits count) (sym v) in
    omega arith

pub kept_some : (digits front : List ℕ) (places k count value whole more : ℕ) (result : Option ℕ) → places ≡ min k (length digits + 20) → count ≡ min places (length digits) → front ≡ take count digits → value ≡ value_from 10 0 front → whole ≡ value * 10 ^ (k - length digits) → more ≡ half digits count → MatchOption result (2 ^ 64 ≤ whole + more) (λ v. v ≡ whole + more) → MatchOption result (2 ^ 64 ≤ kept digits (Some k)) (λ v. v ≡ kept digits (Some k))
kept_some digits front places k count value whole more result p c f v w m h =
    let e : whole + more ≡ kept digits (Some k) = ap (λ (x : ℕ). x + more) w ∙ ap (λ (x : ℕ). value * 10 ^ (k - length digits) + x) m ∙ ap (λ (x : ℕ). x * 10 ^ (k - length digits) + half digits count) v ∙ sym (same_kept digits front places k count p c f) in
    subst (λ (x : ℕ). MatchOption result (2 ^ 64 ≤ x) (λ u. u ≡ x)) e h

-- how many zeros are named
pub zeros : (places k len count up : ℕ) → places ≡ min k (len + 20) → count ≡ min places len → up ≡ min (places - count) 20 → up ≡ min (k - len) 20
zeros places k len count up p c u = omega arith

pub kept_of_none : (digits : List ℕ) (most : ℕ) (o : Option ℕ) → None ≡ option_map (λ k. min k most) o → 0 ≡ kept digits o
unfolding kept
kept_of_none digits most None h = refl
kept_of_none digits most (Some k) h = cc

pub kept_of_some : (digits : List ℕ) (most places : ℕ) (result : Option ℕ) (o : Option ℕ) → Some places ≡ option_map (λ k. min k most) o → ((k : ℕ) → places ≡ min k most → MatchOption result (2 ^ 64 ≤ kept digits (Some k)) (λ v. v ≡ kept digits (Some k))) → MatchOption result (2 ^ 64 ≤ kept digits o) (λ v. v ≡ kept digits o)
kept_of_some digits most places result None h f = absurd cc
kept_of_some digits most places result (Some k) h f = f k cc

-- a double literal is read by its parts
pub real_by : (piece digits slice expo edigits : List ℕ) (before most : ℕ) (neg : Bool) (exponent places units : Option ℕ) (result : Option ℤ) → digits ≡ digits_of piece → slice ≡ digits → expo ≡ exponent_part piece → before ≡ digits_len piece → neg ≡ has_minus expo → edigits ≡ exponent_digits expo → MatchOption exponent (2 ^ 64 ≤ value_from 10 0 edigits) (λ e. e ≡ value_from 10 0 edigits) → ((y : ℕ) → MatchOption exponent (2 ^ 64 ≤ y) (λ e. e ≡ y) → places ≡ option_map (λ k. min k most) (places_kept before neg y)) → most ≡ length slice + 20 → ((o : Option ℕ) → places ≡ option_map (λ k. min k (length slice + 20)) o → MatchOption units (2 ^ 64 ≤ kept slice o) (λ v. v ≡ kept slice o)) → ((v : ℕ) → MatchOption units (2 ^ 64 ≤ v) (λ u. u ≡ v) → result ≡ double_of v) → result ≡ real_value piece
unfolding real_value
real_by piece digits slice expo edigits before most neg exponent places units result d s x b n e num p m v r =
    let o : Option ℕ = places_kept before neg (value_from 10 0 edigits) in
    let placed : places ≡ option_map (λ k. min k (length slice + 20)) o = p (value_from 10 0 edigits) num ∙ ap (λ (i : ℕ). option_map (λ k. min k i) o) m in
    let found : result ≡ double_of (kept slice o) = r (kept slice o) (v o placed) in
    found
    ∙ ap (λ (us : List ℕ). double_of (kept us o)) (s ∙ d)
    ∙ ap (λ (i : ℕ). double_of (kept (digits_of piece) (places_kept i neg (value_from 10 0 edigits)))) b
    ∙ ap (λ (t : Bool). double_of (kept (digits_of piece) (places_kept (digits_len piece) t (value_from 10 0 edigits)))) (n ∙ ap has_minus x)
    ∙ ap (λ (us : List ℕ). double_of (kept (digits_of piece) (places_kept (digits_len piece) (has_minus (exponent_part piece)) (value_from 10 0 us)))) (e ∙ ap exponent_digits x)
