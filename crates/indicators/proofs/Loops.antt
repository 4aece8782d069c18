-- What the loops over numbers and bars come to.
use Rattle.std.proofs.Common.{ℕ, ◌≡◌, ◌≤◌, ◌<◌, ◌*◌, ◌+◌, ◌-◌, List, [], ◌∷◌, ◌++◌, length, get_or, drop, sym, ap, ◌∙◌, append_assoc, append-nil, add_assoc, arith}
use Rattle.std.specs.List.{fold}
use Rattle.std.proofs.lemmas.List.{at_drop_more, drop_all}
use Rattle.market_types.specs.declared.bar.Bar.{Bar}
use Rattle.indicators.specs.Averages.{exponential, exponential_next, weighted_sum}
use Rattle.indicators.specs.Prices.{ranges, high, low, true_range, each_after, each_but_first}

-- one more number of a weighted sum
pub weighted_more : (total w x i all : ℕ) (xs : List ℕ) → i < length xs → x ≡ get_or xs i x
    → total + weighted_sum w (drop i xs) ≡ all → (total + w * x) + weighted_sum (w + 1) (drop (i + 1) xs) ≡ all
weighted_more total w x i all xs within is e =
    ap (λ y. (total + w * y) + weighted_sum (w + 1) (drop (i + 1) xs)) is
    ∙ add_assoc total (w * get_or xs i x) (weighted_sum (w + 1) (drop (i + 1) xs))
    ∙ ap (λ s. total + s) (sym (at_drop_more (weighted_sum w) xs i x within)) ∙ e

-- one more item with what f makes of it
pub after_more : {A : Type 0} (f : A → A → ℕ) (made all : List ℕ) (before x : A) (xs : List A) (i : ℕ) → i < length xs
    → x ≡ get_or xs i x → made ++ each_after f before (drop i xs) ≡ all
    → (made ++ f before x ∷ []) ++ each_after f x (drop (i + 1) xs) ≡ all
after_more f made all before x xs i within is e =
    append_assoc made (f before x ∷ []) (each_after f x (drop (i + 1) xs))
    ∙ ap (λ y. made ++ f before y ∷ each_after f y (drop (i + 1) xs)) is
    ∙ ap (λ s. made ++ s) (sym (at_drop_more (each_after f before) xs i x within)) ∙ e

-- behind the last item
pub after_all : {A : Type 0} (f : A → A → ℕ) (made all : List ℕ) (before : A) (xs : List A) (i : ℕ) → length xs ≤ i
    → made ++ each_after f before (drop i xs) ≡ all → made ≡ all
after_all f made all before xs i past e =
    sym (append-nil made) ∙ sym (ap (λ s. made ++ each_after f before s) (drop_all i xs past)) ∙ e

-- the first item and those behind it
pub first_range : (bar : Bar) (bars : List Bar) → 0 < length bars → bar ≡ get_or bars 0 bar
    → (high bar - low bar) ∷ each_after true_range bar (drop 1 bars) ≡ ranges bars
unfolding ranges
first_range bar [] some is = absurd (omega arith)
first_range bar (x ∷ bars) some is = ap (λ b. (high b - low b) ∷ each_after true_range b bars) is

pub first_change : {A : Type 0} (f : A → A → ℕ) (x : A) (xs : List A) → 0 < length xs → x ≡ get_or xs 0 x
    → each_after f x (drop 1 xs) ≡ each_but_first f xs
first_change f x [] some is = absurd (omega arith)
first_change f x (y ∷ xs) some is = ap (λ z. each_after f z xs) is

pub first_exponential : (n x : ℕ) (xs : List ℕ) → 0 < length xs → x ≡ get_or xs 0 x
    → fold (exponential_next n) x (drop 1 xs) ≡ exponential n xs
unfolding exponential
first_exponential n x [] some is = absurd (omega arith)
first_exponential n x (y ∷ xs) some is = ap (λ z. fold (exponential_next n) z xs) is
