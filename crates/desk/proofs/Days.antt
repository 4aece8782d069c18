-- Days are small numbers.
use Rattle.std.proofs.Common.{ℕ, ◌/◌, ◌^◌, ◌≤◌, suc, zero, List, [], ◌∷◌, slice_get, Option, Some, None, ℤ, unsigned_abs, arith}
use Rattle.std.specs.List.{All}
use Rattle.std.specs.Prelude.{IfSome}
use Rattle.std.proofs.lemmas.Int.{ints}
use Rattle.std.proofs.lemmas.List.Elements.{All-tail}
use Rattle.market_types.specs.Ordered.{IsMoment}
use Rattle.desk.specs.Sound.{day_of_quote, day_at}

moment_small : (t : ℤ) → IsMoment t → unsigned_abs t / 86400000 ≤ 2 ^ 19
moment_small t m = omega (arith, ints, m.from, m.to)

quote_small : (o : Option (Option ℤ)) → IfSome o (λ time. IfSome time IsMoment) → day_of_quote o ≤ 2 ^ 19
quote_small None h = omega arith
quote_small (Some None) h = omega arith
quote_small (Some (Some t)) h = moment_small t h

each : (times : List (Option ℤ)) (s : ℕ) → All (λ time. IfSome time IsMoment) times → IfSome (slice_get times s) (λ time. IfSome time IsMoment)
each [] s h = tt
each (x ∷ xs) zero h = h zero x (omega arith)
each (x ∷ xs) (suc s) h = each xs s (All-tail (λ time. IfSome time IsMoment) x xs h)

-- the day of the last quote of a symbol
pub day_small : (times : List (Option ℤ)) (s : ℕ) → All (λ time. IfSome time IsMoment) times → day_at times s ≤ 2 ^ 19
unfolding day_at
day_small times s h = quote_small (slice_get times s) (each times s h)
