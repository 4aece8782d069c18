-- Of several breaks the one that is told, in parts.
use Rattle.std.proofs.Common.{◌≡◌, ℕ, Bool, true, false, ltb, eqb, ◌&&◌, ◌||◌, List, [], ◌∷◌, ◌++◌, Option, Some, None, refl, sym, ap, ◌∙◌, arith, if◌then◌else◌}
use Rattle.std.specs.List.{flat_map}
use Rattle.std.proofs.lemmas.Grind.{flat_map-append}
use Rattle.std.proofs.lemmas.List.{append-nil}
use Rattle.std.proofs.lemmas.Bool.Decides.{nat_tests}
use Rattle.mql_names.specs.declared.fault.Broken.{Broken}
use Rattle.mql_names.specs.Faults.{is_before, sooner, told}

-- the order of three numbers each
abbrev lex : ℕ → ℕ → ℕ → ℕ → ℕ → ℕ → Bool
lex a b c x y z = ltb a x || (eqb a x && (ltb b y || (eqb b y && ltb c z)))

lex_trans : (a b c x y z u v w : ℕ) → lex a b c x y z ≡ true → lex x y z u v w ≡ true → lex a b c u v w ≡ true
lex_trans a b c x y z u v w h k = grind (arith, nat_tests)

lex_cotrans : (a b c x y z u v w : ℕ) → lex a b c x y z ≡ false → lex x y z u v w ≡ false → lex a b c u v w ≡ false
lex_cotrans a b c x y z u v w h k = grind (arith, nat_tests)

pub before_trans : (a b c : Broken) → is_before a b ≡ true → is_before b c ≡ true → is_before a c ≡ true
before_trans a b c h k = lex_trans a.first a.rule a.node b.first b.rule b.node c.first c.rule c.node h k

pub before_cotrans : (a b c : Broken) → is_before a b ≡ false → is_before b c ≡ false → is_before a c ≡ false
before_cotrans a b c h k = lex_cotrans a.first a.rule a.node b.first b.rule b.node c.first c.rule c.node h k

-- the choice among three, by the tests of neighbours
chosen : (x y z : Broken) (p q r : Bool) → (p ≡ true → q ≡ true → r ≡ true) → (p ≡ false → q ≡ false → r ≡ false)
    → (if q then (if p then Some z else Some y) else (if r then Some z else Some x))
    ≡ (if p then (if r then Some z else Some x) else (if q then Some y else Some x))
chosen x y z true true r t n = ap (λ (b : Bool). if b then Some z else Some x) (sym (t refl refl))
chosen x y z true false r t n = refl
chosen x y z false true r t n = refl
chosen x y z false false r t n = ap (λ (b : Bool). if b then Some z else Some x) (n refl refl)

left_of : (x : Broken) (q : Bool) (y z : Broken)
    → sooner (if q then Some y else Some x) (Some z) ≡ (if q then (if is_before z y then Some z else Some y) else (if is_before z x then Some z else Some x))
left_of x true y z = refl
left_of x false y z = refl

right_of : (x : Broken) (p : Bool) (y z : Broken)
    → sooner (Some x) (if p then Some z else Some y) ≡ (if p then (if is_before z x then Some z else Some x) else (if is_before y x then Some y else Some x))
right_of x true y z = refl
right_of x false y z = refl

pub sooner_assoc : (a b c : Option Broken) → sooner (sooner a b) c ≡ sooner a (sooner b c)
sooner_assoc None b c = refl
sooner_assoc (Some x) None c = refl
sooner_assoc (Some x) (Some y) None = none_last x (is_before y x) y
  where
    none_last : (x : Broken) (q : Bool) (y : Broken) → sooner (if q then Some y else Some x) None ≡ (if q then Some y else Some x)
    none_last x true y = refl
    none_last x false y = refl
sooner_assoc (Some x) (Some y) (Some z) =
    left_of x (is_before y x) y z
    ∙ chosen x y z (is_before z y) (is_before y x) (is_before z x) (before_trans z y x) (before_cotrans z y x)
    ∙ sym (right_of x (is_before z y) y z)

pub told_append : (xs ys : List Broken) → told (xs ++ ys) ≡ sooner (told xs) (told ys)
told_append [] ys = refl
told_append (x ∷ xs) ys = ap (sooner (Some x)) (told_append xs ys) ∙ sym (sooner_assoc (Some x) (told xs) (told ys))

-- one more of a list
pub each_told : {A : Type 0} (g : A → List Broken) (xs : List A) (x : A) (a b : Option Broken)
    → a ≡ told (flat_map g xs) → b ≡ told (g x) → sooner a b ≡ told (flat_map g (xs ++ x ∷ []))
each_told g xs x a b h k =
    ap (λ o. sooner o b) h ∙ ap (sooner (told (flat_map g xs))) k
    ∙ sym (told_append (flat_map g xs) (g x))
    ∙ ap told (sym (flat_map-append g xs (x ∷ []) ∙ ap (λ ys. flat_map g xs ++ ys) (append-nil (g x))))

pub sooner_none : (a : Option Broken) → sooner a None ≡ a
sooner_none None = refl
sooner_none (Some x) = refl

-- one break is told as it is
pub told_one : (x : Broken) → told (x ∷ []) ≡ Some x
told_one x = refl
