-- What a fill leaves keeps the types of its numbers.
use Rattle.std.proofs.Common.{◌≡◌, ℕ, suc, ◌+◌, ◌-◌, ◌*◌, ◌^◌, ◌<◌, ◌≤◌, ℤ, pos, negsuc, neg_ℤ, ◌+ℤ◌, ◌-ℤ◌, ◌*ℤ◌, ◌<ℤ◌, ◌≤ℤ◌, unsigned_abs, FitsSigned, sym, subst, arith}
use Rattle.std.specs.Int.{w64, w128}
use Rattle.std.proofs.lemmas.Int.{ints}
use Rattle.std.proofs.lemmas.Nat.{mul-le}
use Rattle.std.proofs.Math.IntN.{pos-*ℤ-negsuc}
use Rattle.fx8.specs.Rounding.{rounded, nearest, signed, is_below_zero}
use Rattle.account.proofs.Scaling.{rounded_scaled, scaled_most, nearest_le}
use Rattle.account.specs.Money.{portion, weighted_price}

left_of : (a : ℤ) (r : ℕ) → FitsSigned w128 a → r ≤ unsigned_abs a → FitsSigned w128 (a -ℤ signed (is_below_zero a) r)
left_of (pos k) r f h = omega (arith, ints, f, h)
left_of (negsuc k) r f h = omega (arith, ints, f, h)

part_left : (a : ℤ) (m n : ℕ) → FitsSigned w128 a → 0 < n → m ≤ n → FitsSigned w128 (a -ℤ rounded (a *ℤ pos m) (pos n))
part_left a m n f s h = subst (λ (z : ℤ). FitsSigned w128 (a -ℤ z)) (sym (rounded_scaled a m n s)) (left_of a (nearest (unsigned_abs a * m) n) f (scaled_most (unsigned_abs a) m n s h))

-- what is left of an amount when a portion of it is paid
pub portion_left : (a part whole : ℤ) → FitsSigned w128 a → pos 0 <ℤ part → part ≤ℤ whole → FitsSigned w128 (a -ℤ portion a part whole)
unfolding portion
portion_left a (pos m) (pos n) f s h = part_left a m n f (omega (arith, ints, s, h)) (omega (arith, ints, h))
portion_left a (negsuc m) whole f s h = absurd (omega (arith, ints, s))
portion_left a (pos m) (negsuc n) f s h = absurd (omega (arith, ints, h))

high : (m : ℕ) (p : ℤ) → FitsSigned w64 p → (pos m *ℤ p) ≤ℤ pos (m * (2 ^ 63 - 1))
high m (pos j) f = let g : m * j ≤ m * (2 ^ 63 - 1) = mul-le m j m (2 ^ 63 - 1) (omega arith) (omega (arith, ints, f)) in omega (arith, ints, g)
high m (negsuc j) f = rw (pos-*ℤ-negsuc m j) (omega (arith, ints))

low : (m : ℕ) (p : ℤ) → FitsSigned w64 p → neg_ℤ (pos (m * 2 ^ 63)) ≤ℤ (pos m *ℤ p)
low m (pos j) f = omega (arith, ints)
low m (negsuc j) f = let g : m * suc j ≤ m * 2 ^ 63 = mul-le m (suc j) m (2 ^ 63) (omega arith) (omega (arith, ints, f)) in rw (pos-*ℤ-negsuc m j) (omega (arith, ints, g))

both : (m n k : ℕ) → (m + n) * k ≡ m * k + n * k
both m n k = grind arith

rounds : (x : ℤ) (q : ℕ) → 0 < q → x ≤ℤ pos ((2 ^ 63 - 1) * q) → neg_ℤ (pos (2 ^ 63 * q)) ≤ℤ x → FitsSigned w64 (rounded x (pos q))
unfolding rounded
rounds (pos k) q s h l = let g : nearest k q ≤ 2 ^ 63 - 1 = nearest_le k q (2 ^ 63 - 1) s (omega (arith, ints, h)) in omega (arith, ints, g)
rounds (negsuc k) q s h l = let g : nearest (suc k) q ≤ 2 ^ 63 = nearest_le (suc k) q (2 ^ 63) s (omega (arith, ints, l)) in omega (arith, ints, g)

flip : (a b : ℕ) → a * b ≡ b * a
flip a b = grind arith

weighted : (m n : ℕ) (p a : ℤ) → 0 < m + n → FitsSigned w64 p → FitsSigned w64 a → FitsSigned w64 (rounded (pos m *ℤ p +ℤ pos n *ℤ a) (pos (m + n)))
weighted m n p a s f g =
    rounds (pos m *ℤ p +ℤ pos n *ℤ a) (m + n) s
    (omega (arith, ints, high m p f, high n a g, flip (2 ^ 63 - 1) (m + n), both m n (2 ^ 63 - 1)))
    (omega (arith, ints, low m p f, low n a g, flip (2 ^ 63) (m + n), both m n (2 ^ 63)))

-- the weighted price of two prices is one
pub weighted_fits : (v w p a : ℤ) → pos 0 <ℤ v → pos 0 <ℤ w → FitsSigned w64 p → FitsSigned w64 a → FitsSigned w64 (weighted_price v p w a)
unfolding weighted_price
weighted_fits (pos m) (pos n) p a s t f g = weighted m n p a (omega (arith, ints, s)) f g
weighted_fits (negsuc m) w p a s t f g = absurd (omega (arith, ints, s))
weighted_fits (pos m) (negsuc n) p a s t f g = absurd (omega (arith, ints, t))
