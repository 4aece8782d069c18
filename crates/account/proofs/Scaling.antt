-- A product divided and rounded, without the product.
use Rattle.std.proofs.Common.{◌≡◌, ◌∙◌, ℕ, suc, zero, ◌+◌, ◌-◌, ◌*◌, ◌/◌, ◌%◌, ◌^◌, ◌<◌, ◌≤◌, true, ℤ, pos, negsuc, neg_ℤ, ◌*ℤ◌, unsigned_abs, refl, ap, sym, arith}
use Rattle.std.proofs.Math.Nat.{mul-add-div_right, div-lt_iff_lt-mul}
use Rattle.std.proofs.Math.IntN.{negsuc-*ℤ-pos}
use Rattle.std.proofs.lemmas.Nat.{mul-le, div-add-mod'}
use Rattle.fx8.specs.Rounding.{nearest, rounded, signed, is_below_zero}

spread : (m q : ℕ) → suc m * (2 * q) ≡ 2 * (m * q) + 2 * q
spread m q = grind arith

-- what is rounded to the nearest stays below a bound of the quotient
pub nearest_le : (n q m : ℕ) → 0 < q → n ≤ m * q → nearest n q ≤ m
nearest_le n q m p h =
    let room : 2 * n + q < suc m * (2 * q) = omega (arith, spread m q, h, p) in
    let two : 0 < 2 * q = omega (arith, p) in
    let low : (2 * n + q) / (2 * q) < suc m = (div-lt_iff_lt-mul two).1 room in
    omega (arith, low)

parts : (c r part whole : ℕ) → 2 * ((c * whole + r) * part) + whole ≡ c * part * (2 * whole) + (2 * (r * part) + whole)
parts c r part whole = grind arith

-- whole counts and a rest
pub nearest_parts : (n part whole : ℕ) → 0 < whole → nearest (n * part) whole ≡ n / whole * part + nearest (n % whole * part) whole
nearest_parts n part whole h =
    let two : 0 < 2 * whole = omega (arith, h) in
    ap (λ (m : ℕ). (2 * (m * part) + whole) / (2 * whole)) (sym (div-add-mod' n whole))
    ∙ ap (λ (m : ℕ). m / (2 * whole)) (parts (n / whole) (n % whole) part whole)
    ∙ mul-add-div_right two (n / whole * part) (2 * (n % whole * part) + whole)

pub scaled_most : (n part whole : ℕ) → 0 < whole → part ≤ whole → nearest (n * part) whole ≤ n
scaled_most n part whole h p = nearest_le (n * part) whole n h (mul-le n part n whole (omega arith) p)

pub count_room : (n part whole c : ℕ) → part ≤ whole → n ≤ 2 ^ 127 → c ≡ n / whole → c * part ≤ 2 ^ 127
count_room n part whole c p h e = rw e (omega (arith, mul-le (n / whole) part (n / whole) whole (omega arith) p, div-add-mod' n whole, h))

pub rest_small : (n part whole r q : ℕ) → 0 < whole → part ≤ whole → whole < 2 ^ 63 → r ≡ n % whole → q ≡ r * part → q < 2 ^ 126
rest_small n part whole r q s p h e f =
    let below : n % whole < whole = omega (arith, s) in
    rw f (rw e (omega (arith, mul-le (n % whole) part (2 ^ 63 - 1) (2 ^ 63 - 1) (omega (arith, below, h)) (omega (arith, p, h)))))

pub rest_room : (n part whole r : ℕ) → 0 < whole → part ≤ whole → whole < 2 ^ 63 → r ≡ n % whole → r * part ≤ 2 ^ 127
rest_room n part whole r s p h e = let q : r * part < 2 ^ 126 = rest_small n part whole r (r * part) s p h e refl in omega (arith, q)

pub scaled_sum : (n part whole c r x y z : ℕ) → 0 < whole → c ≡ n / whole → r ≡ n % whole → x ≡ c * part → y ≡ r * part → z ≡ nearest y whole → x + z ≡ nearest (n * part) whole
scaled_sum n part whole c r x y z s ec er ex ey ez = rw (nearest_parts n part whole s) (rw ez (rw ey (rw ex (rw er (rw ec refl)))))

none_of : (whole : ℕ) → 0 < whole → nearest 0 whole ≡ 0
none_of whole h = let q : nearest 0 whole ≤ 0 = nearest_le 0 whole 0 h (omega arith) in omega (arith, q)

below_zero : (m whole : ℕ) → 0 < whole → rounded (neg_ℤ (pos m)) (pos whole) ≡ signed true (nearest m whole)
unfolding rounded
below_zero zero whole h = let e : nearest 0 whole ≡ 0 = none_of whole h in rw e refl
below_zero (suc m) whole h = refl

-- the sign of the product is that of the amount
pub rounded_scaled : (a : ℤ) (part whole : ℕ) → 0 < whole → rounded (a *ℤ pos part) (pos whole) ≡ signed (is_below_zero a) (nearest (unsigned_abs a * part) whole)
unfolding rounded
rounded_scaled (pos n) part whole h = refl
rounded_scaled (negsuc n) part whole h = rw (negsuc-*ℤ-pos n part) (below_zero (suc n * part) whole h)
