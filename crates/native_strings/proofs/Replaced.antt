-- How a part is replaced.
use Rattle.std.proofs.Common.{◌≡◌, Bool, subst, append-nil, ℕ, zero, suc, ◌+◌, ◌-◌, ◌<◌, ◌≤◌, true, false, List, [], ◌∷◌, ◌++◌, length, get_or, drop, refl, sym, ap, ◌∙◌, arith, length-drop, append_assoc, drop-cons, add-one}
use Rattle.std.proofs.lemmas.List.{drop-drop}
use Rattle.mql_meaning.specs.StringFunctions.{begins, Counted, before, replaced}
use Rattle.native_strings.proofs.Lists.{behind_end, one_behind}
use Rattle.native_strings.proofs.Finding.{part_fits}

skips : (part by : List ℕ) (skip : ℕ) (text : List ℕ) → replaced part by skip text ≡ replaced part by 0 (drop skip text)
skips part by zero text = refl
skips part by (suc skip) [] = refl
skips part by (suc skip) (u ∷ us) = skips part by skip us

all_but_one : (n : ℕ) → suc n - 1 ≡ n
all_but_one n = omega arith

opened : (p : ℕ) (ps by : List ℕ) (u : ℕ) (us : List ℕ) → begins (p ∷ ps) (u ∷ us) ≡ true
    → replaced (p ∷ ps) by 0 (u ∷ us) ≡ before 1 by (replaced (p ∷ ps) by (length (p ∷ ps) - 1) us)
opened p ps by u us e = rw (replaced, e) refl

changed : (part by text : List ℕ) → 0 < length part → begins part text ≡ true
    → replaced part by 0 text ≡ before 1 by (replaced part by 0 (drop (length part) text))
changed [] by text some e = absurd (omega arith)
changed (p ∷ ps) by [] some e = grind arith
changed (p ∷ ps) by (u ∷ us) some e =
    opened p ps by u us e ∙ ap (before 1 by) (skips (p ∷ ps) by (length (p ∷ ps) - 1) us
    ∙ ap (λ (n : ℕ). replaced (p ∷ ps) by 0 (drop n us)) (all_but_one (length ps)))

kept : (part by text : List ℕ) → 0 < length text → begins part text ≡ false
    → replaced part by 0 text ≡ before 0 (get_or text 0 0 ∷ []) (replaced part by 0 (drop 1 text))
kept part by [] some e = absurd (omega arith)
kept part by (u ∷ us) some e = rw (replaced, e) refl

changed_at : (part by text : List ℕ) (place : ℕ) → 0 < length part → begins part (drop place text) ≡ true
    → replaced part by 0 (drop place text) ≡ before 1 by (replaced part by 0 (drop (place + length part) text))
changed_at part by text place some e =
    changed part by (drop place text) some e
    ∙ ap (λ (xs : List ℕ). before 1 by (replaced part by 0 xs)) (drop-drop (length part) place text)

kept_at : (part by text : List ℕ) (place : ℕ) → place < length text → begins part (drop place text) ≡ false
    → replaced part by 0 (drop place text) ≡ before 0 (get_or text place 0 ∷ []) (replaced part by 0 (drop (place + 1) text))
kept_at part by text place h e =
    let first : drop place text ≡ get_or text place 0 ∷ drop (suc place) text = drop-cons text place 0 h in
    let head : get_or (drop place text) 0 0 ≡ get_or text place 0 = rw first refl in
    kept part by (drop place text) (omega (arith, length-drop place text, h)) e
    ∙ rw (head, one_behind place text) refl

pub changed_text : (out part by text all : List ℕ) (place : ℕ) → 0 < length part → begins part (drop place text) ≡ true
    → out ++ (replaced part by 0 (drop place text)).text ≡ all
    → (out ++ by) ++ (replaced part by 0 (drop (place + length part) text)).text ≡ all
changed_text out part by text all place some e h =
    append_assoc out by (replaced part by 0 (drop (place + length part) text)).text
    ∙ sym (ap (λ (c : Counted). out ++ c.text) (changed_at part by text place some e)) ∙ h

pub changed_count : (count all : ℕ) (part by text : List ℕ) (place : ℕ) → 0 < length part → begins part (drop place text) ≡ true
    → count + (replaced part by 0 (drop place text)).count ≡ all
    → (count + 1) + (replaced part by 0 (drop (place + length part) text)).count ≡ all
changed_count count all part by text place some e h =
    omega (arith, ap (λ (c : Counted). c.count) (changed_at part by text place some e), h)

pub kept_text : (out part by text all : List ℕ) (place : ℕ) → place < length text → begins part (drop place text) ≡ false
    → out ++ (replaced part by 0 (drop place text)).text ≡ all
    → (out ++ (get_or text place 0 ∷ [])) ++ (replaced part by 0 (drop (place + 1) text)).text ≡ all
kept_text out part by text all place h e i =
    append_assoc out (get_or text place 0 ∷ []) (replaced part by 0 (drop (place + 1) text)).text
    ∙ sym (ap (λ (c : Counted). out ++ c.text) (kept_at part by text place h e)) ∙ i

pub kept_count : (count all : ℕ) (part by text : List ℕ) (place : ℕ) → place < length text → begins part (drop place text) ≡ false
    → count + (replaced part by 0 (drop place text)).count ≡ all
    → count + (replaced part by 0 (drop (place + 1) text)).count ≡ all
kept_count count all part by text place h e i =
    omega (arith, ap (λ (c : Counted). c.count) (kept_at part by text place h e), i)

pub part_within : (part text : List ℕ) (place : ℕ) → length part ≤ length (drop place text) → place ≤ length text
    → place + length part ≤ length text
part_within part text place fits h = omega (arith, length-drop place text, fits, h)

-- what was tested of the rest holds behind the place
pub holds : (part text rest : List ℕ) (place : ℕ) (b v : Bool) → rest ≡ drop place text → b ≡ begins part rest → b ≡ v
    → begins part (drop place text) ≡ v
holds part text rest place b v r e h = sym (ap (begins part) r) ∙ sym e ∙ h

pub fits_behind : (part text rest : List ℕ) (place : ℕ) → rest ≡ drop place text → length part ≤ length rest → place ≤ length text
    → place + length part ≤ length text
fits_behind part text rest place r fits h =
    part_within part text place (subst (λ (xs : List ℕ). length part ≤ length xs) r fits) h

pub ended_text : (out part by text all : List ℕ) (place : ℕ) → length text ≤ place
    → out ++ (replaced part by 0 (drop place text)).text ≡ all → out ≡ all
ended_text out part by text all place h e =
    sym (ap (λ (xs : List ℕ). out ++ (replaced part by 0 xs).text) (behind_end place text h) ∙ append-nil out) ∙ e

pub ended_count : (count all : ℕ) (part by text : List ℕ) (place : ℕ) → length text ≤ place
    → count + (replaced part by 0 (drop place text)).count ≡ all → count ≡ all
ended_count count all part by text place h e =
    omega (arith, ap (λ (xs : List ℕ). (replaced part by 0 xs).count) (behind_end place text h), e)
