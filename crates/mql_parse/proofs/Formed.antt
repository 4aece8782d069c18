-- Only the numbers of forms have a first dot.
use Rattle.std.proofs.Common.{◌≡◌, ℕ, zero, suc, ◌<◌, ◌≤◌, Bool, true, false, ◌&&◌, nat_lt, List, [], ◌∷◌, length, refl, sym, ap, ◌∙◌, ◌⊎◌, inl, inr, arith}
use Rattle.mql_grammar.specs.Forms.{of_class, wrapped}
use Rattle.mql_grammar.specs.Table.{number_at}
use Rattle.mql_grammar.specs.Dots.{mql_table}
use Rattle.mql_grammar.specs.Rules.{dot_next, dot_path, form_start, class_wrapper}
use Rattle.mql_grammar.proofs.Lookups.{rules_lawful}
use Rattle.mql_grammar.specs.declared.lookup.Opening.TheVariants.{Node}
use Rattle.mql_grammar.specs.declared.token_class.Class.{Class}
use Rattle.mql_parse.specs.declared.frame.Frame.{Frame}
use Rattle.mql_parse.specs.View.{over}
use Rattle.mql_parse.specs.Opened.{takes_at, seen, frame_spine, IsOpening, Sound}

beyond : (xs : List ℕ) (n : ℕ) → length xs ≤ n → number_at xs n ≡ 0
beyond [] n h = refl
beyond (x ∷ xs) zero h = absurd (omega arith)
beyond (x ∷ xs) (suc n) h = beyond xs n (omega arith)

starts_are : length mql_table.starts ≡ 44
starts_are = refl

first_of_none : form_start 0 ≡ 0
unfolding form_start
first_of_none = refl

first_beyond : (n : ℕ) → 44 ≤ n → form_start n ≡ 0
unfolding form_start
first_beyond n h = beyond mql_table.starts n (omega (arith, starts_are, h))

within : (n : ℕ) → (n ≤ 43) ⊎ (44 ≤ n)
within n = grind arith

-- a number with a first dot is a form's
pub is_form : (n : ℕ) → 0 < form_start n → (1 ≤ n) × (n ≤ 43)
is_form zero l = absurd (let e = first_of_none in omega (arith, e, l))
is_form (suc n) l = elim (within (suc n)) [
  | inl h ↦ (omega arith, h)
  | inr h ↦ absurd (let e = first_beyond (suc n) h in omega (arith, e, l))
]

zero_or : (n : ℕ) → (n ≡ 0) ⊎ (0 < n)
zero_or n = grind arith

no_dot_takes : (c : ℕ) → takes_at 0 c ≡ false
unfolding dot_path
no_dot_takes c = refl

-- what a token opens is a form
pub opened_form : (q c n : ℕ) → IsOpening q c (Node n) → 0 < form_start n
opened_form q c n h = elim (zero_or (form_start n)) [
  | inl z ↦ absurd (let e : takes_at (form_start n) c ≡ false = ap (λ (d : ℕ). takes_at d c) z ∙ no_dot_takes c in let t = h.2 in cc)
  | inr l ↦ l
]

and_right : (a b : Bool) → (a && b) ≡ true → b ≡ true
and_right true b h = h
and_right false b h = absurd cc

below_zero : (n : ℕ) → n ≡ 0 → nat_lt 0 n ≡ true → ⊥
below_zero zero e h = cc
below_zero (suc n) e h = cc

-- what a token makes of the part before it is a form
pub wrapped_form : (ts : List Class) (f : Frame) (c : ℕ) → Sound ts f → wrapped (over ts) (frame_spine f) c ≡ true → 0 < form_start (class_wrapper c)
wrapped_form ts f c sound h = elim (zero_or (form_start (class_wrapper c))) [
  | inl z ↦
      let dead = (rules_lawful (λ k. k)).dead in
      let none : dot_next (dot_next (form_start (class_wrapper c)) (seen f.last)) (of_class c) ≡ 0 =
      ap (λ (d : ℕ). dot_next (dot_next d (seen f.last)) (of_class c)) z ∙ ap (λ (d : ℕ). dot_next d (of_class c)) (dead (seen f.last)) ∙ dead (of_class c) in
      absurd (below_zero _ none (and_right _ _ (sym (sound.wraps c) ∙ h)))
  | inr l ↦ l
]
