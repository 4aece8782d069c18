-- So many arguments.
use Rattle.std.proofs.Common.{◌≡◌, ◌≢◌, ℕ, ◌+◌, ◌≤◌, List, [], ◌∷◌, length, get_or, map, Option, Some, None, refl, sym, ap, ◌∙◌, arith}
use Rattle.native_arguments.specs.declared.argument.Argument.{Argument}
use Rattle.native_arguments.specs.Arguments.{all_shown, itself, read_1, read_2, read_3, shown}

pub one_is : (xs : List Argument) (x : Argument) → length xs ≡ 1 → x ≡ get_or xs 0 x →
    read_1 itself (all_shown xs) ≡ Some (shown x)
one_is [] x h e = absurd (omega (arith, h))
one_is (a ∷ []) x h e = ap (λ (y : Argument). Some (shown y)) (sym e)
one_is (a ∷ b ∷ xs) x h e = absurd (omega (arith, h))

pub one_is_not : (xs : List Argument) → length xs ≢ 1 → read_1 itself (all_shown xs) ≡ None
one_is_not [] h = refl
one_is_not (a ∷ []) h = absurd (h refl)
one_is_not (a ∷ b ∷ xs) h = refl

pub two_are : (xs : List Argument) (x y : Argument) → length xs ≡ 2 → x ≡ get_or xs 0 x → y ≡ get_or xs 1 y →
    read_2 itself itself (all_shown xs) ≡ Some (shown x, shown y)
two_are [] x y h e f = absurd (omega (arith, h))
two_are (a ∷ []) x y h e f = absurd (omega (arith, h))
two_are (a ∷ b ∷ []) x y h e f =
    ap (λ (u : Argument). Some (shown u, shown b)) (sym e) ∙ ap (λ (v : Argument). Some (shown x, shown v)) (sym f)
two_are (a ∷ b ∷ c ∷ xs) x y h e f = absurd (omega (arith, h))

pub two_are_not : (xs : List Argument) → length xs ≢ 2 → read_2 itself itself (all_shown xs) ≡ None
two_are_not [] h = refl
two_are_not (a ∷ []) h = refl
two_are_not (a ∷ b ∷ []) h = absurd (h refl)
two_are_not (a ∷ b ∷ c ∷ xs) h = refl

pub three_are : (xs : List Argument) (x y z : Argument) → length xs ≡ 3 → x ≡ get_or xs 0 x → y ≡ get_or xs 1 y →
    z ≡ get_or xs 2 z → read_3 itself itself itself (all_shown xs) ≡ Some (shown x, shown y, shown z)
three_are [] x y z h e f g = absurd (omega (arith, h))
three_are (a ∷ []) x y z h e f g = absurd (omega (arith, h))
three_are (a ∷ b ∷ []) x y z h e f g = absurd (omega (arith, h))
three_are (a ∷ b ∷ c ∷ []) x y z h e f g =
    ap (λ (u : Argument). Some (shown u, shown b, shown c)) (sym e)
    ∙ ap (λ (v : Argument). Some (shown x, shown v, shown c)) (sym f)
    ∙ ap (λ (w : Argument). Some (shown x, shown y, shown w)) (sym g)
three_are (a ∷ b ∷ c ∷ d ∷ xs) x y z h e f g = absurd (omega (arith, h))

pub three_are_not : (xs : List Argument) → length xs ≢ 3 → read_3 itself itself itself (all_shown xs) ≡ None
three_are_not [] h = refl
three_are_not (a ∷ []) h = refl
three_are_not (a ∷ b ∷ []) h = refl
three_are_not (a ∷ b ∷ c ∷ []) h = absurd (h refl)
three_are_not (a ∷ b ∷ c ∷ d ∷ xs) h = refl
