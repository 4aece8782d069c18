-- Sums of money that wrap on the way.
use Rattle.std.proofs.Common.{◌≡◌, ◌∙◌, ℤ, pos, ◌+ℤ◌, FitsSigned, refl, ap, sym, subst, arith, List, [], ◌∷◌, length}
use Rattle.std.specs.Int.{w128, int_wrap}
use Rattle.std.proofs.lemmas.Int.{ints, int_wrap_fits, int_wrap-add_left, int_wrap-add_right, SFits-int_wrap}
use Rattle.account.specs.Deals.{total}

-- a sum of which a part is left, but for what wrapped
pub record IsSum (sum left whole : ℤ) : Type 0 where
  pub same : int_wrap w128 (sum +ℤ left) ≡ int_wrap w128 whole
  pub fits : FitsSigned w128 sum

pub sum_begins : (z whole : ℤ) → z ≡ pos 0 → IsSum z whole whole
sum_begins z whole e =
    let a : pos 0 +ℤ whole ≡ whole = omega (arith, ints) in
    rw e (record { same = ap (λ y. int_wrap w128 y) a; fits = omega (arith, ints) })

-- one more part
pub sum_goes_on : (sum part left whole z : ℤ) → z ≡ int_wrap w128 (sum +ℤ part) → IsSum sum (part +ℤ left) whole → IsSum z left whole
sum_goes_on sum part left whole z e h =
    let a : sum +ℤ part +ℤ left ≡ sum +ℤ (part +ℤ left) = omega (arith, ints) in
    rw e (record {
      same = int_wrap-add_left w128 (sum +ℤ part) left ∙ ap (λ y. int_wrap w128 y) a ∙ h.same;
      fits = SFits-int_wrap w128 (sum +ℤ part);
    })

pub sum_ends : (sum left whole : ℤ) → left ≡ pos 0 → IsSum sum left whole → sum ≡ int_wrap w128 whole
sum_ends sum left whole n h =
    let a : sum +ℤ left ≡ sum = rw n (omega (arith, ints)) in
    sym (int_wrap_fits w128 sum h.fits) ∙ ap (λ y. int_wrap w128 y) (sym a) ∙ h.same

-- the same for a list
pub next_of_list : {X : Type 0} (f : X → ℤ) (x : X) (rest others : List X) (sum y z whole : ℤ) → rest ≡ x ∷ others → y ≡ f x → z ≡ int_wrap w128 (sum +ℤ y) → IsSum sum (total f rest) whole → IsSum z (total f others) whole
next_of_list {X} f x rest others sum y z whole l p e h =
    sum_goes_on sum (f x) (total f others) whole z (e ∙ ap (λ v. int_wrap w128 (sum +ℤ v)) p) (subst (λ (xs : List X). IsSum sum (total f xs) whole) l h)

pub nothing_left : {X : Type 0} (xs : List X) → length xs ≡ 0 → xs ≡ []
nothing_left [] h = refl
nothing_left (x ∷ xs) h = absurd (omega (arith, h))

pub end_of_list : {X : Type 0} (f : X → ℤ) (rest : List X) (sum whole : ℤ) → rest ≡ [] → IsSum sum (total f rest) whole → sum ≡ int_wrap w128 whole
end_of_list {X} f rest sum whole l h = sum_ends sum (total f rest) whole (ap (λ (xs : List X). total f xs) l) h

-- a sum whose second part wrapped, where the whole fits
pub joined : (a b y z : ℤ) → FitsSigned w128 (a +ℤ b) → y ≡ int_wrap w128 b → z ≡ int_wrap w128 (a +ℤ y) → z ≡ a +ℤ b
joined a b y z f p e = e ∙ ap (λ v. int_wrap w128 (a +ℤ v)) p ∙ int_wrap-add_right w128 a b ∙ int_wrap_fits w128 (a +ℤ b) f

-- one more part of a sum that is told from its beginning
pub one_more : (sum before part z : ℤ) → sum ≡ int_wrap w128 before → z ≡ int_wrap w128 (sum +ℤ part) → z ≡ int_wrap w128 (before +ℤ part)
one_more sum before part z s e = rw e (rw s (int_wrap-add_left w128 before part))
