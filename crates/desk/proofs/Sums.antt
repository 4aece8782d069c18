-- Sums of what is small stay within 128 bits.
use Rattle.std.proofs.Common.{◌≡◌, ℕ, suc, zero, ◌+◌, ◌*◌, ◌^◌, ◌≤◌, Bool, true, false, List, [], ◌∷◌, length, take, drop, filter, fold, slice_index_or, ℤ, ◌+ℤ◌, ◌-ℤ◌, unsigned_abs, FitsSigned, subst, arith}
use Rattle.std.specs.Int.{w128}
use Rattle.std.specs.List.{All}
use Rattle.std.proofs.lemmas.Int.{ints, fits_signed_from_abs}
use Rattle.std.proofs.lemmas.List.Elements.{All-tail, All-filter}
use Rattle.account.specs.declared.account_spec.AccountSpec.{AccountSpec}
use Rattle.account.specs.declared.deal.Deal.{Deal}
use Rattle.account.specs.declared.position.Position.{Position}
use Rattle.account.specs.declared.event.Event.{Event}
use Rattle.account.specs.Deals.{total, net, deals, trading_deals, balance}
use Rattle.account.specs.Journal.{deposit_deal}
use Rattle.account.specs.Positions.{open_positions}
use Rattle.account.specs.Ranges.{IsAccount, IsHeld, IsWithin}
use Rattle.account.specs.Statistics.{gain, loss, greater, Path, begun, path_after, balance_path}
use Rattle.account.specs.StopOut.{position_margin, is_on, side_margin, symbol_margin, total_below, margin_by}
use Rattle.account.proofs.Bounds.{margin_most, total_le, sum_le, filter_few, few_open}
use Rattle.account.proofs.Kept.{balance_is}
use Rattle.desk.specs.Sound.{IsSmall}

gain_le : (d : Deal) → unsigned_abs (gain d) ≤ unsigned_abs (net d)
unfolding gain
gain_le d = grind arith

loss_le : (d : Deal) → unsigned_abs (loss d) ≤ unsigned_abs (net d)
unfolding loss
loss_le d = grind arith

-- a path whose amounts stay below a bound
record PathIn (a : ℕ) (p : Path) : Type 0 where
  now : unsigned_abs p.now ≤ a
  highest : unsigned_abs p.highest ≤ a
  fall : unsigned_abs p.fall ≤ 2 * a

greater_le : (x y : ℤ) (a : ℕ) → unsigned_abs x ≤ a → unsigned_abs y ≤ a → unsigned_abs (greater x y) ≤ a
unfolding greater
greater_le x y a h k = grind arith

less_le : (x y : ℤ) → unsigned_abs (x -ℤ y) ≤ unsigned_abs x + unsigned_abs y
less_le x y = grind (arith, ints)

path_step : (a : ℕ) (p : Path) (d : Deal) → PathIn a p → IsSmall d → PathIn (a + 2 ^ 102) (path_after p d)
path_step a p d h k =
    let n : ℤ = p.now +ℤ net d in
    let s : unsigned_abs n ≤ unsigned_abs p.now + unsigned_abs (net d) = sum_le p.now (net d) in
    let at : unsigned_abs n ≤ a + 2 ^ 102 = omega (arith, s, h.now, k) in
    let top : unsigned_abs (greater p.highest n) ≤ a + 2 ^ 102 = greater_le p.highest n (a + 2 ^ 102) (omega (arith, h.highest)) at in
    let drop : unsigned_abs (greater p.highest n -ℤ n) ≤ unsigned_abs (greater p.highest n) + unsigned_abs n = less_le (greater p.highest n) n in
    record { now = at; highest = top; fall = greater_le p.fall (greater p.highest n -ℤ n) (2 * (a + 2 ^ 102)) (omega (arith, h.fall)) (omega (arith, drop, top, at)) }

path_over : (a : ℕ) (p : Path) (ds : List Deal) → PathIn a p → All IsSmall ds → PathIn (a + length ds * 2 ^ 102) (fold path_after p ds)
path_over a p [] h k = record { now = omega (arith, h.now); highest = omega (arith, h.highest); fall = omega (arith, h.fall) }
path_over a p (d ∷ ds) h k =
    let r : PathIn (a + 2 ^ 102 + length ds * 2 ^ 102) (fold path_after (path_after p d) ds) = path_over (a + 2 ^ 102) (path_after p d) ds (path_step a p d h (k zero d (omega arith))) (All-tail IsSmall d ds k) in
    record { now = omega (arith, r.now); highest = omega (arith, r.highest); fall = omega (arith, r.fall) }

-- the margin of each symbol, and of all of them
below_le : (f : ℕ → ℤ) (m n : ℕ) → ((k : ℕ) → unsigned_abs (f k) ≤ m) → unsigned_abs (total_below f n) ≤ n * m
below_le f m zero h = omega arith
below_le f m (suc n) h =
    let r : unsigned_abs (total_below f n) ≤ n * m = below_le f m n h in
    let s : unsigned_abs (total_below f n +ℤ f n) ≤ unsigned_abs (total_below f n) + unsigned_abs (f n) = sum_le (total_below f n) (f n) in
    let o : unsigned_abs (f n) ≤ m = h n in
    let e : suc n * m ≡ m + n * m = grind arith in
    omega (arith, r, s, o, e)

each_margin : (spec : AccountSpec) (ps : List Position) → IsAccount spec → All IsHeld ps → unsigned_abs (total (position_margin spec.specs spec.leverage) ps) ≤ length ps * 2 ^ 100
each_margin spec ps a h = total_le (position_margin spec.specs spec.leverage) (2 ^ 100) ps (λ i p e. margin_most spec.specs spec.leverage _ a.specs a.leverage_from (h i p e))

side_le : (spec : AccountSpec) (ps : List Position) (buy : Bool) (s : ℕ) → IsAccount spec → All IsHeld ps → length ps ≤ 50000 → unsigned_abs (side_margin spec.specs spec.leverage ps buy s) ≤ 50000 * 2 ^ 100
side_le spec ps buy s a h n =
    let f : length (filter (is_on s buy) ps) ≤ length ps = filter_few (is_on s buy) ps in
    let t : unsigned_abs (side_margin spec.specs spec.leverage ps buy s) ≤ length (filter (is_on s buy) ps) * 2 ^ 100 = each_margin spec (filter (is_on s buy) ps) a (All-filter (is_on s buy) IsHeld ps h) in
    omega (arith, f, t, n)

symbol_le : (spec : AccountSpec) (ps : List Position) (s : ℕ) → IsAccount spec → All IsHeld ps → length ps ≤ 50000 → unsigned_abs (symbol_margin spec.specs spec.leverage ps s) ≤ 50000 * 2 ^ 100
symbol_le spec ps s a h n = greater_le (side_margin spec.specs spec.leverage ps true s) (side_margin spec.specs spec.leverage ps false s) (50000 * 2 ^ 100) (side_le spec ps true s a h n) (side_le spec ps false s a h n)

margin_fits : (hedging : Bool) (spec : AccountSpec) (ps : List Position) → IsAccount spec → length spec.specs ≤ 255 → All IsHeld ps → length ps ≤ 50000 → FitsSigned w128 (margin_by hedging spec.specs spec.leverage ps)
margin_fits false spec ps a l h n =
    let t : unsigned_abs (total (position_margin spec.specs spec.leverage) ps) ≤ length ps * 2 ^ 100 = each_margin spec ps a h in
    fits_signed_from_abs w128 _ (omega (arith, t, n))
margin_fits true spec ps a l h n =
    let t : unsigned_abs (total_below (symbol_margin spec.specs spec.leverage ps) (length spec.specs)) ≤ length spec.specs * (50000 * 2 ^ 100) = below_le (symbol_margin spec.specs spec.leverage ps) (50000 * 2 ^ 100) (length spec.specs) (λ k. symbol_le spec ps k a h n) in
    fits_signed_from_abs w128 _ (omega (arith, t, l))

one_small : (f : Deal → ℤ) (d : Deal) → unsigned_abs (f d) ≤ unsigned_abs (net d) → IsSmall d → unsigned_abs (f d) ≤ 2 ^ 102
one_small f d g h = omega (arith, g, h)

sum_fits : (f : Deal → ℤ) (ds : List Deal) → ((d : Deal) → unsigned_abs (f d) ≤ unsigned_abs (net d)) → All IsSmall ds → length ds ≤ 50000 → FitsSigned w128 (total f ds)
sum_fits f ds g h n =
    let t : unsigned_abs (total f ds) ≤ length ds * 2 ^ 102 = total_le f (2 ^ 102) ds (λ i d e. one_small f (slice_index_or ds i d) (g (slice_index_or ds i d)) (h i d e)) in
    fits_signed_from_abs w128 _ (omega (arith, t, n))

behind : (ds : List Deal) → length (drop 1 ds) ≤ length ds
behind [] = omega arith
behind (d ∷ ds) = omega arith

-- the balance
pub balance_le : (spec : AccountSpec) (es : List Event) → IsAccount spec → take 1 (deals es) ≡ deposit_deal spec ∷ [] → length (deals es) ≤ 50000 → All IsSmall (trading_deals es) → unsigned_abs (balance es) ≤ 2 ^ 119
balance_le spec es a f n k =
    let few : length (trading_deals es) ≤ 50000 = omega (arith, behind (deals es), n) in
    let top : unsigned_abs spec.deposit ≤ 2 ^ 102 = omega (arith, ints, a.deposit_from, a.deposit_to) in
    let p : PathIn (2 ^ 102 + length (trading_deals es) * 2 ^ 102) (balance_path spec.deposit (trading_deals es)) = path_over (2 ^ 102) (begun spec.deposit) (trading_deals es) (record { now = top; highest = top; fall = omega arith }) k in
    subst (λ (z : ℤ). unsigned_abs z ≤ 2 ^ 119) (balance_is spec es f) (omega (arith, p.now, few))

-- no balance, margin or statistic leaves 128 bits
pub within : (spec : AccountSpec) (es : List Event) → IsAccount spec → length spec.specs ≤ 255 → take 1 (deals es) ≡ deposit_deal spec ∷ [] → length (deals es) ≤ 50000 → All IsHeld (open_positions es) → All IsSmall (trading_deals es) → IsWithin spec es
within spec es a l f n h k =
    let few : length (trading_deals es) ≤ 50000 = omega (arith, behind (deals es), n) in
    let open_few : length (open_positions es) ≤ 50000 = omega (arith, few_open es, n) in
    let top : unsigned_abs spec.deposit ≤ 2 ^ 102 = omega (arith, ints, a.deposit_from, a.deposit_to) in
    let p : PathIn (2 ^ 102 + length (trading_deals es) * 2 ^ 102) (balance_path spec.deposit (trading_deals es)) = path_over (2 ^ 102) (begun spec.deposit) (trading_deals es) (record { now = top; highest = top; fall = omega arith }) k in
    record {
      balance = subst (λ (z : ℤ). FitsSigned w128 z) (balance_is spec es f) (fits_signed_from_abs w128 _ (omega (arith, p.now, few)));
      margin = margin_fits spec.hedging spec (open_positions es) a l h open_few;
      profit = sum_fits net (trading_deals es) (λ d. omega arith) k few;
      gross_profit = sum_fits gain (trading_deals es) gain_le k few;
      gross_loss = sum_fits loss (trading_deals es) loss_le k few;
      balance_dd = fits_signed_from_abs w128 _ (omega (arith, p.fall, few));
    }
