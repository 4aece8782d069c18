-- The topmost operands.
use Rattle.std.proofs.Common.{◌≡◌, ℕ, zero, suc, ◌-◌, ◌<◌, List, [], ◌∷◌, ◌++◌, Some, None, sym, ap, ◌∙◌, arith}
use Rattle.std.specs.Prelude.{reverse}
use Rattle.std.proofs.lemmas.List.{reverse-append}
use Rattle.mql_meaning.specs.Operands as meaning
use Rattle.store_frames.specs.declared.operand.Operand.{Operand}
use Rattle.store_frames.specs.Operands.{shown}
use Rattle.stack_code.specs.Machine.{beside, takes}
use Rattle.stack_effects.specs.Works.{all_shown}

pub none_at_all : (ops : List Operand) → ops ≡ [] → takes 1 (all_shown ops) [] ≡ None
none_at_all ops e = ap (λ (xs : List Operand). takes 1 (all_shown xs) []) e

pub one_there : (ops rest : List Operand) (x : Operand) → ops ≡ x ∷ rest →
    takes 1 (all_shown ops) [] ≡ Some (beside (shown x ∷ []) (all_shown rest))
one_there ops rest x e = ap (λ (xs : List Operand). takes 1 (all_shown xs) []) e

pub none_of_two : (ops : List Operand) → ops ≡ [] → takes 2 (all_shown ops) [] ≡ None
none_of_two ops e = ap (λ (xs : List Operand). takes 2 (all_shown xs) []) e

pub one_of_two : (ops rest : List Operand) (y : Operand) → ops ≡ y ∷ rest → rest ≡ [] →
    takes 2 (all_shown ops) [] ≡ None
one_of_two ops rest y e f =
    ap (λ (xs : List Operand). takes 2 (all_shown xs) []) (e ∙ ap (λ (xs : List Operand). y ∷ xs) f)

pub two_there : (ops others rest : List Operand) (x y : Operand) → ops ≡ y ∷ others → others ≡ x ∷ rest →
    takes 2 (all_shown ops) [] ≡ Some (beside (shown x ∷ shown y ∷ []) (all_shown rest))
two_there ops others rest x y e f =
    ap (λ (xs : List Operand). takes 2 (all_shown xs) []) (e ∙ ap (λ (xs : List Operand). y ∷ xs) f)

-- one more operand is taken, before those that were taken already
pub one_more : (n : ℕ) (ops rest taken more : List Operand) (x : Operand) → 0 < n → ops ≡ x ∷ rest →
    more ≡ taken ++ x ∷ [] →
    takes n (all_shown ops) (all_shown (reverse taken)) ≡ takes (n - 1) (all_shown rest) (all_shown (reverse more))
one_more zero ops rest taken more x h e f = absurd (omega (arith, h))
one_more (suc n) ops rest taken more x h e f =
    ap (λ (xs : List Operand). takes (suc n) (all_shown xs) (all_shown (reverse taken))) e
    ∙ ap (λ (xs : List Operand). takes n (all_shown rest) (all_shown xs))
    (sym (ap reverse f ∙ reverse-append taken (x ∷ [])))
    ∙ ap (λ (m : ℕ). takes m (all_shown rest) (all_shown (reverse more))) (omega arith)

pub none_more : (n : ℕ) (ops : List Operand) (xs : List meaning.Operand) → 0 < n → ops ≡ [] →
    takes n (all_shown ops) xs ≡ None
none_more zero ops xs h e = absurd (omega (arith, h))
none_more (suc n) ops xs h e = ap (λ (os : List Operand). takes (suc n) (all_shown os) xs) e

pub all_taken : (n : ℕ) (ops : List Operand) (xs : List meaning.Operand) → n ≡ 0 →
    takes n (all_shown ops) xs ≡ Some (beside xs (all_shown ops))
all_taken n ops xs e = ap (λ (k : ℕ). takes k (all_shown ops) xs) e
