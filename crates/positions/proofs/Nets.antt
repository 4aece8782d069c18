-- What a deal gains, pays and costs is small.
use Rattle.std.proofs.Common.{◌≡◌, ◌∙◌, ℕ, suc, zero, ◌+◌, ◌*◌, ◌^◌, ◌<◌, ◌≤◌, Bool, true, false, cond, List, [], ◌∷◌, length, Option, Some, None, ℤ, pos, negsuc, neg_ℤ, ◌+ℤ◌, ◌-ℤ◌, ◌*ℤ◌, ◌≤ℤ◌, ◌<ℤ◌, int_lt, unsigned_abs, FitsSigned, refl, ap, sym, subst, arith}
use Rattle.std.specs.Int.{w64, w128}
use Rattle.std.specs.List.{All}
use Rattle.std.specs.Prelude.{IfSome}
use Rattle.std.proofs.lemmas.Int.{ints, unsigned_abs-mul}
use Rattle.std.proofs.lemmas.Nat.{mul-le}
use Rattle.std.proofs.lemmas.List.Elements.{All-tail}
use Rattle.fx8.specs.Rounding.{rounded, nearest, signed, is_below_zero}
use Rattle.market_types.specs.Ranges.{IsSpec}
use Rattle.market_types.specs.declared.symbol_spec.SymbolSpec.{SymbolSpec}
use Rattle.account.specs.declared.deal.Deal.{Deal}
use Rattle.account.specs.declared.deal.DealEntry.TheVariants as entry
use Rattle.account.specs.declared.position.Position.{Position}
use Rattle.account.specs.Deals.{net}
use Rattle.account.specs.Money.{for_side, profit, commission, portion}
use Rattle.account.specs.Positions.{same_side}
use Rattle.account.specs.Ranges.{IsHeld}
use Rattle.account.specs.StopOut.{contract_of}
use Rattle.account.proofs.Bounds.{rounded_le, size_64, contract_most, sum_le}
use Rattle.account.proofs.Scaling.{rounded_scaled, scaled_most}
use Rattle.positions.specs.declared.fill.Fill.{Fill}
use Rattle.positions.specs.Fills.{rate_of, plain, closed, closing, swap_paid, deal_on}

side_size : (b : Bool) (z : ℤ) → unsigned_abs (for_side b z) ≡ unsigned_abs z
side_size true z = refl
side_size false z = omega (arith, ints)

pub profit_le : (buy : Bool) (o c : ℤ) (contract : ℕ) (v : ℤ) → FitsSigned w64 o → FitsSigned w64 c → contract ≤ 10 ^ 6 → FitsSigned w64 v → unsigned_abs (profit buy o c contract v) ≤ 2 ^ 101
unfolding profit
profit_le buy o c contract v fo fc k fv =
    let rise : unsigned_abs (c -ℤ o) ≤ 2 ^ 64 = omega (arith, ints, fo, fc) in
    let size : unsigned_abs v ≤ 2 ^ 63 = size_64 v fv in
    let gain : unsigned_abs ((c -ℤ o) *ℤ v) ≤ 2 ^ 127 = rw (unsigned_abs-mul (c -ℤ o) v) (mul-le (unsigned_abs (c -ℤ o)) (unsigned_abs v) (2 ^ 64) (2 ^ 63) rise size) in
    let sided : unsigned_abs (for_side buy ((c -ℤ o) *ℤ v)) ≤ 2 ^ 127 = rw (side_size buy ((c -ℤ o) *ℤ v)) gain in
    let whole : unsigned_abs (for_side buy ((c -ℤ o) *ℤ v) *ℤ pos contract) ≤ 2 ^ 127 * 10 ^ 6 = rw (unsigned_abs-mul (for_side buy ((c -ℤ o) *ℤ v)) (pos contract)) (mul-le (unsigned_abs (for_side buy ((c -ℤ o) *ℤ v))) contract (2 ^ 127) (10 ^ 6) sided k) in
    rounded_le (for_side buy ((c -ℤ o) *ℤ v) *ℤ pos contract) (10 ^ 14) (2 ^ 101) (omega arith) (omega (arith, whole))

-- the rate of a symbol
pub record IsRate (z : ℤ) : Type 0 where
  pub from : pos 0 ≤ℤ z
  pub to : z ≤ℤ pos (10 ^ 8)

pub rate_range : (specs : List SymbolSpec) (symbol : ℕ) → All IsSpec specs → IsRate (rate_of specs symbol)
rate_range [] symbol h = record { from = omega (arith, ints); to = omega (arith, ints) }
rate_range (s ∷ specs) zero h = record { from = (h zero s (omega arith)).commission_from; to = (h zero s (omega arith)).commission_to }
rate_range (s ∷ specs) (suc n) h = rate_range specs n (All-tail IsSpec s specs h)

commission_le : (rate v : ℤ) → IsRate rate → FitsSigned w64 v → unsigned_abs (commission rate v) ≤ 2 ^ 63
unfolding commission
commission_le rate v r f =
    let size : unsigned_abs rate ≤ 10 ^ 8 = omega (arith, ints, r.from, r.to) in
    let m : unsigned_abs rate * unsigned_abs v ≤ 10 ^ 8 * 2 ^ 63 = mul-le (unsigned_abs rate) (unsigned_abs v) (10 ^ 8) (2 ^ 63) size (size_64 v f) in
    let n : unsigned_abs (rounded (rate *ℤ v) (pos (10 ^ 8))) ≤ 2 ^ 63 = rounded_le (rate *ℤ v) (10 ^ 8) (2 ^ 63) (omega arith) (rw (unsigned_abs-mul rate v) (omega (arith, m))) in
    omega (arith, ints, n)

signed_size : (b : Bool) (n : ℕ) → unsigned_abs (signed b n) ≡ n
signed_size true n = omega (arith, ints)
signed_size false n = refl

-- a part of an amount, and what is left of it, are no greater than it
pub record IsPart (a part : ℤ) : Type 0 where
  pub paid : unsigned_abs part ≤ unsigned_abs a
  pub left : unsigned_abs (a -ℤ part) ≤ unsigned_abs a

part_of_sign : (a : ℤ) (r : ℕ) → r ≤ unsigned_abs a → IsPart a (signed (is_below_zero a) r)
part_of_sign (pos k) r h = record { paid = h; left = omega (arith, ints, h) }
part_of_sign (negsuc k) r h = record { paid = rw (signed_size true r) h; left = omega (arith, ints, h) }

pub portion_part : (a part whole : ℤ) → pos 0 <ℤ part → part ≤ℤ whole → IsPart a (portion a part whole)
unfolding portion
portion_part a (pos m) (pos n) s h =
    let z : 0 < n = omega (arith, ints, s, h) in
    let w : m ≤ n = omega (arith, ints, h) in
    subst (λ (x : ℤ). IsPart a x) (sym (rounded_scaled a m n z)) (part_of_sign a (nearest (unsigned_abs a * m) n) (scaled_most (unsigned_abs a) m n z w))
portion_part a (negsuc m) whole s h = absurd (omega (arith, ints, s))
portion_part a (pos m) (negsuc n) s h = absurd (omega (arith, ints, h))

whole_part : (a : ℤ) → IsPart a a
whole_part a = record { paid = omega arith; left = omega (arith, ints) }

pub swap_part : (f : Fill) (p : Position) → pos 0 <ℤ f.volume → IsPart p.swap (swap_paid f p)
swap_part f p s =
    (elim (int_lt f.volume p.volume) as (λ b. int_lt f.volume p.volume ≡ b → IsPart p.swap (cond b (portion p.swap f.volume p.volume) p.swap)) [
      | true ↦ λ e. portion_part p.swap f.volume p.volume s (grind (arith, ints))
      | false ↦ λ e. whole_part p.swap
    ]) refl

closing_fits : (f : Fill) (p : Position) → FitsSigned w64 f.volume → FitsSigned w64 p.volume → FitsSigned w64 (closing f p)
closing_fits f p h k = elim (int_lt f.volume p.volume) as (λ b. FitsSigned w64 (cond b f.volume p.volume)) [ true ↦ h | false ↦ k ]

three_small : (a b c : ℤ) → unsigned_abs a ≤ 2 ^ 101 → unsigned_abs b ≤ 2 ^ 100 → unsigned_abs c ≤ 2 ^ 63 → unsigned_abs (a +ℤ b +ℤ c) ≤ 2 ^ 102
three_small a b c h k l =
    let s : unsigned_abs (a +ℤ b) ≤ unsigned_abs a + unsigned_abs b = sum_le a b in
    let t : unsigned_abs (a +ℤ b +ℤ c) ≤ unsigned_abs (a +ℤ b) + unsigned_abs c = sum_le (a +ℤ b) c in
    omega (arith, h, k, l, s, t)

-- the net of a deal is small
abbrev pub IsSmall : Deal → Type 0
IsSmall d = unsigned_abs (net d) ≤ 2 ^ 102

plain_small : (specs : List SymbolSpec) (f : Fill) (t : ℕ) → All IsSpec specs → FitsSigned w64 f.volume → IsSmall (plain specs f t entry.In)
unfolding net
plain_small specs f t h v = three_small (pos 0) (pos 0) (commission (rate_of specs f.symbol) f.volume) (omega arith) (omega arith) (commission_le (rate_of specs f.symbol) f.volume (rate_range specs f.symbol h) v)

closed_small : (specs : List SymbolSpec) (f : Fill) (p : Position) → All IsSpec specs → pos 0 <ℤ f.volume → FitsSigned w64 f.volume → FitsSigned w64 f.price → IsHeld p → unsigned_abs p.swap ≤ 2 ^ 100 → IsSmall (closed specs f p)
unfolding net
closed_small specs f p h s v g k w =
    let paid : IsPart p.swap (swap_paid f p) = swap_part f p s in
    three_small (profit p.buy p.price f.price (contract_of specs f.symbol) (closing f p)) (swap_paid f p) (commission (rate_of specs f.symbol) f.volume)
    (profit_le p.buy p.price f.price (contract_of specs f.symbol) (closing f p) k.price g (contract_most specs f.symbol h) (closing_fits f p v k.volume))
    (omega (arith, paid.paid, w)) (commission_le (rate_of specs f.symbol) f.volume (rate_range specs f.symbol h) v)

-- the deal of a fill is small
pub deal_small : (specs : List SymbolSpec) (f : Fill) (o : Option Position) → All IsSpec specs → pos 0 <ℤ f.volume → FitsSigned w64 f.volume → FitsSigned w64 f.price → IfSome o IsHeld → IfSome o (λ p. unsigned_abs p.swap ≤ 2 ^ 100) → IsSmall (deal_on specs f o)
deal_small specs f None h s v g k w = plain_small specs f f.order h v
deal_small specs f (Some p) h s v g k w = elim (same_side p.buy f.buy) as (λ b. IsSmall (cond b (plain specs f p.ticket entry.In) (closed specs f p))) [
  | true ↦ plain_small specs f p.ticket h v
  | false ↦ closed_small specs f p h s v g k w
]
