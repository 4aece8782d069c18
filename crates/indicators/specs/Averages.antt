-- The newest value of each average over n numbers, the oldest first; 0 where there are not numbers enough
-- (MQL5 Reference, Technical Indicators, iMA and ENUM_MA_METHOD; each division rounds half away from zero).
use Rattle.std.specs.Prelude.{ℕ, ◌+◌, ◌-◌, ◌*◌, ◌/◌, nat_lt, List, [], ◌∷◌, length, take, drop, sum, if◌then◌else◌}
use Rattle.std.specs.List.{fold}
use Rattle.fx8.specs.Rounding.{nearest}
use Rattle.indicators.specs.declared.kinds.Method.{Method}
use Rattle.indicators.specs.declared.kinds.Method.TheVariants as method

-- the last n items
abbrev pub newest : {A : Type 0} → ℕ → List A → List A
newest n xs = drop (length xs - n) xs

-- the sum over n
abbrev pub mean : ℕ → List ℕ → ℕ
mean n xs = nearest (sum xs) n

-- simple: the mean of the last n
unfoldable pub simple : ℕ → List ℕ → ℕ
simple n xs = if nat_lt (length xs) n then 0 else mean n (newest n xs)

-- exponential: the first number at first, then twice the number and n - 1 times the value before, over n + 1
abbrev pub exponential_next : ℕ → ℕ → ℕ → ℕ
exponential_next n before x = nearest (2 * x + (n - 1) * before) (n + 1)

unfoldable pub exponential : ℕ → List ℕ → ℕ
exponential n [] = 0
exponential n (x ∷ xs) = fold (exponential_next n) x xs

-- smoothed: the mean of the first n at first, then n - 1 times the value before and the number, over n
abbrev pub smoothed_next : ℕ → ℕ → ℕ → ℕ
smoothed_next n before x = nearest ((n - 1) * before + x) n

unfoldable pub smoothed : ℕ → List ℕ → ℕ
smoothed n xs = if nat_lt (length xs) n then 0 else fold (smoothed_next n) (mean n (take n xs)) (drop n xs)

-- the sum of numbers with weights that rise by 1
abbrev pub weighted_sum : ℕ → List ℕ → ℕ
weighted_sum weight [] = 0
weighted_sum weight (x ∷ xs) = weight * x + weighted_sum (weight + 1) xs

-- linear-weighted: the last n with the weights 1 to n, over the sum of the weights
abbrev pub weighted_mean : ℕ → List ℕ → ℕ
weighted_mean n xs = nearest (weighted_sum 1 xs) (n * (n + 1) / 2)

unfoldable pub linear_weighted : ℕ → List ℕ → ℕ
linear_weighted n xs = if nat_lt (length xs) n then 0 else weighted_mean n (newest n xs)

-- the average by a method
abbrev pub average : Method → ℕ → List ℕ → ℕ
average method.Simple n xs = simple n xs
average method.Exponential n xs = exponential n xs
average method.Smoothed n xs = smoothed n xs
average method.LinearWeighted n xs = linear_weighted n xs
