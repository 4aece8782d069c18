-- An average of the last n numbers rests on the last n bars.
use Rattle.std.proofs.Common.{ℕ, ◌≡◌, ◌-◌, List, [], ◌∷◌, length, map, drop, refl, sym, ap, ◌∙◌, arith}
use Rattle.std.specs.Prelude.{nat_lt, suc, zero}
use Rattle.std.proofs.lemmas.List.{length-drop, length-map, drop-drop}
use Rattle.std.proofs.lemmas.Grind.{common_steps}
use Rattle.market_types.specs.declared.bar.Bar.{Bar}
use Rattle.indicators.specs.Averages.{newest, simple, linear_weighted}

drop-map : {A B : Type 0} (f : A → B) (k : ℕ) (xs : List A) → map f (drop k xs) ≡ drop k (map f xs)
drop-map f zero xs = refl
drop-map f (suc k) [] = refl
drop-map f (suc k) (x ∷ xs) = drop-map f k xs

-- the last n of the last n
twice : {A : Type 0} (n : ℕ) (xs : List A) → newest n (newest n xs) ≡ newest n xs
twice n xs =
    drop-drop (length (newest n xs) - n) (length xs - n) xs
    ∙ ap (λ k. drop k xs) (let e : length (newest n xs) ≡ length xs - (length xs - n) = length-drop (length xs - n) xs in omega (arith, e))

same_test : {A : Type 0} (n : ℕ) (xs : List A) → nat_lt (length (newest n xs)) n ≡ nat_lt (length xs) n
same_test n xs = let e : length (newest n xs) ≡ length xs - (length xs - n) = length-drop (length xs - n) xs in grind (arith, common_steps, e)

newest-map : (f : Bar → ℕ) (n : ℕ) (bars : List Bar) → map f (newest n bars) ≡ newest n (map f bars)
newest-map f n bars = drop-map f (length bars - n) bars ∙ ap (λ k. drop (k - n) (map f bars)) (sym (length-map bars f))

pub simple_newest : (f : Bar → ℕ) (n : ℕ) (bars : List Bar) → simple n (map f (newest n bars)) ≡ simple n (map f bars)
unfolding simple
simple_newest f n bars = rw (newest-map f n bars) (rw (same_test n (map f bars), twice n (map f bars)) refl)

pub linear_newest : (f : Bar → ℕ) (n : ℕ) (bars : List Bar) → linear_weighted n (map f (newest n bars)) ≡ linear_weighted n (map f bars)
unfolding linear_weighted
linear_newest f n bars = rw (newest-map f n bars) (rw (same_test n (map f bars), twice n (map f bars)) refl)
