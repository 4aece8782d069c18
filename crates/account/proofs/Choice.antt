-- The position of least floating profit, and when a stop-out is due.
use Rattle.std.proofs.Common.{◌≡◌, ℕ, suc, zero, ◌+◌, ◌*◌, ◌/◌, ◌%◌, ◌<◌, true, false, cond, ltb, List, ◌∷◌, Option, Some, None, ℤ, pos, negsuc, neg_ℤ, ◌*ℤ◌, refl, ap, sym, subst, ◌∙◌, arith}
use Rattle.std.specs.Prelude.{int_lt}
use Rattle.std.proofs.lemmas.Int.{ints}
use Rattle.std.proofs.Math.IntN.{negsuc-*ℤ-pos}
use Rattle.std.proofs.Math.Nat.{mul-add-div_right}
use Rattle.std.proofs.lemmas.Nat.{div-add-mod'}
use Rattle.account.specs.declared.position.Position.{Position}
use Rattle.account.specs.StopOut.{lesser, least}

-- the lesser of two is compared with the rest
pub lesser_more : (w : Position → ℤ) (b p : Position) (o : Option Position) → lesser w b (Some (lesser w p o)) ≡ lesser w (lesser w b (Some p)) o
lesser_more w b p None = refl
lesser_more w b p (Some r) = grind (arith, ints)

-- a percentage in two parts
pub percentage_is : (n s : ℕ) → n / 100 * s + (n % 100 * s + 99) / 100 ≡ (n * s + 99) / 100
percentage_is n s =
    let e : n * s + 99 ≡ n / 100 * s * 100 + (n % 100 * s + 99) = ap (λ (m : ℕ). m * s + 99) (sym (div-add-mod' n 100)) ∙ grind arith in
    sym (ap (λ (m : ℕ). m / 100) e ∙ mul-add-div_right (omega arith) (n / 100 * s) (n % 100 * s + 99))

due_above : (k n : ℕ) → ltb k ((n + 99) / 100) ≡ ltb (k * 100) n
due_above k n =
    let d : (n + 99) / 100 * 100 + (n + 99) % 100 ≡ n + 99 = div-add-mod' (n + 99) 100 in
    grind (arith, d)

below_zero : (m n : ℕ) → 0 < m → int_lt (neg_ℤ (pos m)) (pos n) ≡ true
below_zero zero n h = absurd (omega (arith, h))
below_zero (suc m) n h = refl

-- below the percentage that is rounded up, or below the percentage
pub due_is : (e : ℤ) (n : ℕ) → int_lt e (pos ((n + 99) / 100)) ≡ int_lt (e *ℤ pos 100) (pos n)
due_is (pos k) n = due_above k n
due_is (negsuc k) n = rw (negsuc-*ℤ-pos k 100) (sym (below_zero (suc k * 100) n (omega arith)))

-- the choice begins with the first, and goes on with one more
pub choice_begins : (w : Position → ℤ) (first : Position) (ps others : List Position) → ps ≡ first ∷ others → least w ps ≡ Some (lesser w first (least w others))
choice_begins w first ps others e = ap (λ (qs : List Position). least w qs) e

pub choice_goes_on : (w : Position → ℤ) (best p new : Position) (rest others whole : List Position) → rest ≡ p ∷ others → new ≡ lesser w best (Some p) → least w whole ≡ Some (lesser w best (least w rest)) → least w whole ≡ Some (lesser w new (least w others))
choice_goes_on w best p new rest others whole e n h = h ∙ ap (λ (qs : List Position). Some (lesser w best (least w qs))) e ∙ ap Some (lesser_more w best p (least w others)) ∙ ap (λ (q : Position). Some (lesser w q (least w others))) (sym n)

-- the choice is one of both
pub chosen : (P : Position → Type 0) (w : Position → ℤ) (best p new : Position) → new ≡ lesser w best (Some p) → P best → P p → P new
chosen P w best p new n b q = subst P (sym n) (elim (int_lt (w p) (w best)) as (λ v. P (cond v p best)) [ true ↦ q | false ↦ b ])
