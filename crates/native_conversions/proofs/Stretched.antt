-- A double ends within the digits, points and minus signs at the beginning of a text.
use Rattle.std.proofs.Common.{◌≡◌, ℕ, zero, suc, ◌+◌, ◌-◌, ◌<◌, ◌≤◌, ◌==◌, Bool, true, false, ◌&&◌, if◌then◌else◌, subst, List, [], ◌∷◌, ◌++◌, length, take, drop, get_or, refl, sym, ap, ◌∙◌, arith}
use Rattle.std.specs.Prelude.{Option, Some, None, ℤ, pos, position}
use Rattle.std.proofs.lemmas.List.Quantifiers.{position-Some}
use Rattle.fx8.specs.Decimals.{is_digit, all_digits, are_digits, double_if, unsigned_value, has_minus, behind_sign, double_of_text}
use Rattle.fx8.proofs.Digits.{all_are}
use Rattle.mql_meaning.specs.Texts.{longest_double}
use Rattle.native_conversions.specs.Stretches.{is_double_unit, double_stretch}

pub stretch_next : (text : List ℕ) → 1 ≤ length text → is_double_unit (get_or text 0 0) ≡ true → double_stretch text ≡ get_or text 0 0 ∷ double_stretch (drop 1 text)
stretch_next [] h d = absurd (omega arith)
stretch_next (unit ∷ text) h d = rw d refl

pub stretch_stop : (text : List ℕ) → 1 ≤ length text → is_double_unit (get_or text 0 0) ≡ false → double_stretch text ≡ []
stretch_stop [] h d = absurd (omega arith)
stretch_stop (unit ∷ text) h d = rw d refl

pub stretch_end : (text : List ℕ) → length text < 1 → double_stretch text ≡ []
stretch_end [] h = refl
stretch_end (unit ∷ text) h = absurd (omega arith)

abbrev pick : Option ℤ → ℤ → ℤ
pick found x = elim found [ Some y ↦ y | None ↦ x ]

pub longest_here : (size : ℕ) (text : List ℕ) (x : ℤ) → 0 < size → double_of_text (take size text) ≡ Some x → longest_double size text ≡ x
longest_here zero text x h e = absurd (omega arith)
longest_here (suc size) text x h e = ap (λ (found : Option ℤ). pick found (longest_double size text)) e

size_is : (size : ℕ) → suc size - 1 ≡ size
size_is size = omega arith

pub longest_next : (size : ℕ) (text : List ℕ) → 0 < size → double_of_text (take size text) ≡ None → longest_double (size - 1) text ≡ longest_double size text
longest_next zero text h e = absurd (omega arith)
longest_next (suc size) text h e =
    ap (λ (n : ℕ). longest_double n text) (size_is size)
    ∙ sym (ap (λ (found : Option ℤ). pick found (longest_double size text)) e)

pub longest_end : (size : ℕ) (text : List ℕ) → size ≤ 0 → longest_double size text ≡ pos 0
longest_end zero text h = refl
longest_end (suc size) text h = absurd (omega arith)

-- each unit is one of a double
abbrev only_units : List ℕ → Bool
only_units [] = true
only_units (unit ∷ text) = is_double_unit unit && only_units text

both_true : (a b : Bool) → (a && b) ≡ true → (a ≡ true) × (b ≡ true)
both_true true b h = (refl, h)
both_true false b h = absurd (cc)

digits_only : (text : List ℕ) → all_digits text ≡ true → only_units text ≡ true
digits_only [] h = refl
digits_only (unit ∷ text) h = let p = both_true (is_digit unit) (all_digits text) h in rw (p.0, digits_only text p.1) refl

are_only : (text : List ℕ) → are_digits text ≡ true → only_units text ≡ true
are_only text h = digits_only text (all_are text h)

point_unit : (unit : ℕ) → (unit == 46) ≡ true → is_double_unit unit ≡ true
point_unit unit h = grind (arith, h)

sign_unit : (unit : ℕ) → (unit == 45) ≡ true → is_double_unit unit ≡ true
sign_unit unit h = grind (arith, h)

split_only : (place : ℕ) (text : List ℕ) → place < length text → (get_or text place 0 == 46) ≡ true
    → only_units (take place text) ≡ true → only_units (drop (place + 1) text) ≡ true → only_units text ≡ true
split_only place [] h e front behind = absurd (omega arith)
split_only zero (unit ∷ text) h e front behind = rw (point_unit unit e, behind) refl
split_only (suc place) (unit ∷ text) h e front behind =
    let p = both_true (is_double_unit unit) (only_units (take place text)) front in
    let next : suc place + 1 ≡ suc (place + 1) = omega arith in
    let rest : only_units (drop (place + 1) text) ≡ true = subst (λ (n : ℕ). only_units (drop n (unit ∷ text)) ≡ true) next behind in
    rw (p.0, split_only place text (omega arith) e p.1 rest) refl

is_held : (test : Bool) (units x : ℤ) → double_if test units ≡ Some x → test ≡ true
is_held true units x h = refl
is_held false units x h = absurd (cc)

value_only : (below : Bool) (text : List ℕ) (place : Option ℕ) (x : ℤ) → position (λ (unit : ℕ). unit == 46) text ≡ place
    → unsigned_value below text place ≡ Some x → only_units text ≡ true
value_only below text None x e h = are_only text (is_held (are_digits text) _ x h)
value_only below text (Some place) x e h =
    let p = both_true (are_digits (take place text)) (are_digits (drop (place + 1) text)) (is_held _ _ x h) in
    let at = position-Some (λ (unit : ℕ). unit == 46) text place 0 e in
    split_only place text at.0 at.1 (are_only (take place text) p.0) (are_only (drop (place + 1) text) p.1)

sign_case : (minus : Bool) (unit : ℕ) (text : List ℕ) → (unit == 45) ≡ minus
    → only_units (if minus then drop 1 (unit ∷ text) else (unit ∷ text)) ≡ true → only_units (unit ∷ text) ≡ true
sign_case true unit text e h = rw (sign_unit unit e, h) refl
sign_case false unit text e h = h

sign_only : (text : List ℕ) → only_units (behind_sign text) ≡ true → only_units text ≡ true
sign_only [] h = refl
sign_only (unit ∷ text) h = sign_case (unit == 45) unit text refl h

double_only : (text : List ℕ) (x : ℤ) → double_of_text text ≡ Some x → only_units text ≡ true
unfolding double_of_text
double_only text x h = sign_only text (value_only (has_minus text) (behind_sign text) _ x refl h)

none_of : (text : List ℕ) (found : Option ℤ) → double_of_text text ≡ found → only_units text ≡ false → found ≡ None
none_of text None e h = refl
none_of text (Some x) e h = let d = double_only text x e in absurd (cc)

past_case : (good : Bool) (unit : ℕ) (text : List ℕ) (n : ℕ)
    → (length (double_stretch text) < n → n ≤ length text → only_units (take n text) ≡ false)
    → length (if good then unit ∷ double_stretch text else []) < suc n → suc n ≤ suc (length text) → (good && only_units (take n text)) ≡ false
past_case false unit text n rest h l = refl
past_case true unit text n rest h l = rest (omega (arith, h)) (omega (arith, l))

past : (text : List ℕ) (n : ℕ) → length (double_stretch text) < n → n ≤ length text → only_units (take n text) ≡ false
past [] n h l = absurd (omega arith)
past (unit ∷ text) zero h l = absurd (omega arith)
past (unit ∷ text) (suc n) h l = past_case (is_double_unit unit) unit text n (past text n) h l

none_past : (text : List ℕ) (n : ℕ) → length (double_stretch text) < n → n ≤ length text → double_of_text (take n text) ≡ None
none_past text n h l = none_of (take n text) _ refl (past text n h l)

front_case : (good : Bool) (unit : ℕ) (text : List ℕ) (n : ℕ) → (n ≤ length (double_stretch text) → take n text ≡ take n (double_stretch text))
    → suc n ≤ length (if good then unit ∷ double_stretch text else [])
    → take (suc n) (unit ∷ text) ≡ take (suc n) (if good then unit ∷ double_stretch text else [])
front_case false unit text n rest h = absurd (omega (arith, h))
front_case true unit text n rest h = ap (λ (t : List ℕ). unit ∷ t) (rest (omega (arith, h)))

same_front : (text : List ℕ) (n : ℕ) → n ≤ length (double_stretch text) → take n text ≡ take n (double_stretch text)
same_front [] n h = refl
same_front (unit ∷ text) zero h = refl
same_front (unit ∷ text) (suc n) h = front_case (is_double_unit unit) unit text n (same_front text n) h

short_case : (good : Bool) (unit : ℕ) (text : List ℕ) → length (double_stretch text) ≤ length text
    → length (if good then unit ∷ double_stretch text else []) ≤ suc (length text)
short_case false unit text h = omega arith
short_case true unit text h = omega (arith, h)

short : (text : List ℕ) → length (double_stretch text) ≤ length text
short [] = omega arith
short (unit ∷ text) = short_case (is_double_unit unit) unit text (short text)

within : (n : ℕ) (text : List ℕ) → n ≤ length (double_stretch text) → longest_double n (double_stretch text) ≡ longest_double n text
within zero text h = refl
within (suc n) text h =
    ap (λ (t : List ℕ). pick (double_of_text t) (longest_double n (double_stretch text))) (sym (same_front text (suc n) h))
    ∙ ap (λ (x : ℤ). pick (double_of_text (take (suc n) text)) x) (within n text (omega (arith, h)))

down : (k n : ℕ) (text : List ℕ) → n ≡ length (double_stretch text) + k → n ≤ length text
    → longest_double n text ≡ longest_double (length (double_stretch text)) text
down zero n text e l = ap (λ (m : ℕ). longest_double m text) (e ∙ omega arith)
down (suc k) n text e l =
    let next : n ≡ suc (length (double_stretch text) + k) = omega (arith, e) in
    ap (λ (m : ℕ). longest_double m text) next
    ∙ ap (λ (found : Option ℤ). pick found (longest_double (length (double_stretch text) + k) text))
    (none_past text (suc (length (double_stretch text) + k)) (omega arith) (omega (arith, next, l)))
    ∙ down k (length (double_stretch text) + k) text refl (omega (arith, next, l))

pub double_of_stretch : (text : List ℕ) → longest_double (length (double_stretch text)) (double_stretch text) ≡ longest_double (length text) text
double_of_stretch text =
    let h = short text in
    within (length (double_stretch text)) text (omega arith)
    ∙ sym (down (length text - length (double_stretch text)) (length text) text (omega (arith, h)) (omega arith))
