-- The code of expressions, as it is written.
use Rattle.std.proofs.Common.{◌≡◌, ℕ, ℤ, pos, ◌==◌, ◌<◌, ◌≤◌, not, Bool, true, false, List, [], ◌∷◌, ◌++◌, length, get_or, Option, Some, None, Result, Ok, Err, refl, sym, ap, ◌∙◌, subst, arith}
use Rattle.std.specs.Prelude.{slice_get, OnOk}
use Rattle.std.proofs.lemmas.Bool.{false≢true, eqb-true}
use Rattle.fx8.specs.declared.int_kind.IntKind.{IntKind}
use Rattle.fx8.specs.declared.int_kind.IntKind.TheVariants as kind
use Rattle.fx8.specs.declared.int_operator.IntOperator.TheVariants as op
use Rattle.natives.specs.declared.native.Native.{Native}
use Rattle.mql_mean.specs.declared.value.Value.{Value, out-Value}
use Rattle.mql_mean.specs.declared.value.Value.TheVariants as value
use Rattle.mql_meaning.specs.declared.operator.Operator.{Operator}
use Rattle.mql_meaning.specs.declared.operator.Operator.TheVariants as operator
use Rattle.mql_meaning.specs.declared.types.Sort.TheVariants as sort
use Rattle.mql_meaning.specs.declared.tree.Callee.{Callee}
use Rattle.mql_meaning.specs.declared.tree.Callee.TheVariants as callee
use Rattle.mql_meaning.specs.declared.tree.Function.{Function}
use Rattle.mql_meaning.specs.declared.tree.Expression.{Expression}
use Rattle.mql_meaning.specs.declared.tree.Expression.TheVariants as x
use Rattle.mql_meaning.specs.Expressions.{is_void}
use Rattle.stack_code.specs.declared.code.Instruction.{Instruction}
use Rattle.stack_code.specs.declared.code.Instruction.TheVariants as instruction
use Rattle.stack_code.specs.declared.code.Effect.TheVariants as effect
use Rattle.stack_code.specs.Machine.{operands_of, arguments_of}
use Rattle.stack_follows.specs.Spans.{Listing, Plain}
use Rattle.stack_emission.specs.declared.draft.Draft.{Draft}
use Rattle.mql_meaning.specs.Operators.{sort_of}
use Rattle.stack_follows.specs.Expressions.{is_short, if_short}
use Rattle.stack_emission.specs.HasCode.{unwritten, same, takes, is_number}
use Rattle.stack_emission.specs.Draft.{IsCalled, listing_in, Coding, Grown, Emits, Adds, NewConstant, NewLabel, SetLabel, ◌then◌, with_label, no_instruction, one, label, jump, unless, plain, push, stuck_if, let_go, expression, operand, operands, all_let_go, first, second, third, choice, call, equals, join, no_name, names, named}
use Rattle.stack_emission.proofs.Kept.{Stays, one_stays, push_stays, stuck_stays, expression_stays, operand_stays, operands_stay, all_go_stay, first_stays, second_stays, equals_stays, names_stay}
use Rattle.stack_emission.proofs.Rows.{apply_stands, choose_stands, call_stands, native_stands, after_stands, named_stands, make_stands, delete_stands, and_left, and_right}
use Rattle.stack_emission.proofs.Writes.{slice_get_seam, Unplaced, less, both, form, nothing, as_form, adds, constant_grown, grown_on, new_unplaced, still_form, still_added, still_new, still_set, new_other, places, then_added, then_placed, then_labelled}

pub on_ok : {T E P Q : Type 0} (r : Result T E) → (P → Q) → OnOk r P → OnOk r Q
on_ok (Ok t) f h = f h
on_ok (Err e) f h = h

-- an instruction is a form
pub put_emits : (i : Instruction) (d d1 : Draft) → Adds i d d1 → Emits (one i) d d1
put_emits i d d1 a = adds (length d.labels) i d d1 a

-- a constant is pushed
push_written : (v : Value) (k : ℕ) (d d1 d2 : Draft) → NewConstant v k d d1 → Adds (instruction.Plain (effect.Constant k)) d1 d2 → Emits (push v) d d2
push_written v k d d1 d2 nc a =
    let g = subst (Grown (length d.labels) d) (sym nc.draft) (constant_grown (length d.labels) v d) in
    let one = adds (length d.labels) (instruction.Plain (effect.Constant k)) d1 d2 a in
    let held : slice_get d1.constants k ≡ Some v = ap (λ (d : Draft). slice_get d.constants k) nc.draft ∙ ap (slice_get (d.constants ++ v ∷ [])) nc.numbered ∙ slice_get_seam d.constants v [] in
    record {
      grown = grown_on (length d.labels) d d1 d2 g one.grown;
      is = λ fs. record {
        number = k;
        is = one.grown.constants k v held;
        one = subst (λ p. Plain (listing_in fs d2) (effect.Constant k) p (length d2.instructions)) (ap (λ (d : Draft). length d.instructions) nc.draft) (one.is fs);
      };
    }

pub push_emits : {E : Type 0} (r : Result (Unit {0}) E) (v : Value) (k : ℕ) (d d1 d2 : Draft) → NewConstant v k d d1 → OnOk r (Adds (instruction.Plain (effect.Constant k)) d1 d2) → OnOk r (Emits (push v) d d2)
push_emits r v k d d1 d2 nc h = on_ok r (push_written v k d d1 d2 nc) h

-- code that is stuck, and none
pub stuck_emits : {E : Type 0} (r : Result (Unit {0}) E) (t : Bool) (d d1 d2 : Draft) → t ≡ true → Emits (push (value.Num kind.Int (pos 0))) d d1 → OnOk r (Adds (instruction.Plain (effect.Apply operator.Read)) d1 d2) → OnOk r (Emits (stuck_if t) d d2)
stuck_emits r t d d1 d2 e a h =
    on_ok r (λ b. subst (λ t. Emits (stuck_if t) d d2) (sym e) (as_form (length d.labels) (push (value.Num kind.Int (pos 0)) then one (instruction.Plain (effect.Apply operator.Read))) (stuck_if true) d d2 (λ fs here a b s. s) (both (push (value.Num kind.Int (pos 0))) (one (instruction.Plain (effect.Apply operator.Read))) d d1 d2 (push_stays (value.Num kind.Int (pos 0))) a (put_emits _ d1 d2 b)))) h

pub free_emits : (t : Bool) (d : Draft) → t ≡ false → Emits (stuck_if t) d d
free_emits t d e = subst (λ t. Emits (stuck_if t) d d) (sym e) (as_form (length d.labels) no_instruction (stuck_if false) d d (λ fs here a b s. s) (nothing (length d.labels) d))

pub go_emits : {E : Type 0} (r : Result (Unit {0}) E) (t : Bool) (d d1 : Draft) → t ≡ false → OnOk r (Adds (instruction.Plain effect.Drop) d d1) → OnOk r (Emits (let_go t) d d1)
go_emits r t d d1 e h = on_ok r (λ a. subst (λ t. Emits (let_go t) d d1) (sym e) (as_form (length d.labels) (one (instruction.Plain effect.Drop)) (let_go false) d d1 (λ fs here a b s. s) (put_emits _ d d1 a))) h

pub stays_emits : (t : Bool) (d : Draft) → t ≡ true → Emits (let_go t) d d
stays_emits t d e = subst (λ t. Emits (let_go t) d d) (sym e) (as_form (length d.labels) no_instruction (let_go true) d d (λ fs here a b s. s) (nothing (length d.labels) d))

-- a call
same_is : (a b : Bool) → same a b ≡ true → a ≡ b
same_is true true e = refl
same_is true false e = sym e
same_is false true e = e
same_is false false e = refl

is_called : (fs : List Function) (k n : ℕ) (gives : Bool) (o : Option Function) → slice_get fs k ≡ o → takes o n gives ≡ true → IsCalled fs k n gives
is_called fs k n gives None e h = absurd (false≢true h)
is_called fs k n gives (Some f) e h = record {
  function = f;
  is = e;
  takes = eqb-true _ _ (and_left (arguments_of (unwritten f) == n) _ h);
  result = same_is _ gives (and_right (arguments_of (unwritten f) == n) _ h);
}

pub direct_emits : {E : Type 0} (r : Result (Unit {0}) E) (f : Callee) (k : ℕ) (gives : Bool) (n : ℕ) (d d1 : Draft) → f ≡ callee.Direct k → OnOk r (Adds (instruction.Call k) d d1) → OnOk r (Emits (call f gives n) d d1)
direct_emits r f k gives n d d1 e h =
    on_ok r
    (λ a.
    let w = put_emits (instruction.Call k) d d1 a in
    subst (λ f. Emits (call f gives n) d d1) (sym e) (record { grown = w.grown; is = λ fs h. record { takes = is_called fs k n gives (slice_get fs k) refl h; one = w.is fs } }))
    h

pub virtual_emits : {E : Type 0} (r : Result (Unit {0}) E) (f : Callee) (class signature : ℕ) (gives : Bool) (n : ℕ) (d d1 : Draft) → f ≡ callee.Virtual class signature → OnOk r (Emits (stuck_if true) d d1) → OnOk r (Emits (call f gives n) d d1)
virtual_emits r f class signature gives n d d1 e h =
    on_ok r (λ a. subst (λ f. Emits (call f gives n) d d1) (sym e) (as_form (length d.labels) (stuck_if true) (call (callee.Virtual class signature) gives n) d d1 (λ fs here a b s h. absurd (false≢true h)) a)) h

-- an expression where a value or a place must stand
pub operand_emits : {E : Type 0} (r : Result (Unit {0}) E) (e : Expression) (d d1 d2 : Draft) → Emits (expression e) d d1 → OnOk r (Emits (stuck_if (is_void e)) d1 d2) → OnOk r (Emits (operand e) d d2)
operand_emits r e d d1 d2 a h = on_ok r (λ b. both (expression e) (stuck_if (is_void e)) d d1 d2 (expression_stays e) a b) h

-- the forms of expressions
pub constant_emits : {E : Type 0} (r : Result (Unit {0}) E) (v u : Value) (d d1 : Draft) → u ≡ v → OnOk r (Emits (push u) d d1) → OnOk r (Emits (expression (x.Constant v)) d d1)
constant_emits r v u d d1 e h = on_ok r (λ a. as_form (length d.labels) (push v) (expression (x.Constant v)) d d1 (λ fs here a b s h. s) (subst (λ v. Emits (push v) d d1) e a)) h

pub apply_emits : {E : Type 0} (r : Result (Unit {0}) E) (o : Operator) (es : List Expression) (d d1 d2 d3 : Draft) → Emits (operands es) d d1 → Emits (stuck_if (not (length es == operands_of o))) d1 d2 → OnOk r (Adds (instruction.Plain (effect.Apply o)) d2 d3) → OnOk r (Emits (expression (x.Apply o es)) d d3)
apply_emits r o es d d1 d2 d3 a b h =
    on_ok r
    (λ p.
    let t = not (length es == operands_of o) in
    as_form (length d.labels) (operands es then stuck_if t then plain (effect.Apply o)) (expression (x.Apply o es)) d d3 (λ fs here a b. apply_stands fs here o es a b)
    (both (operands es) (stuck_if t then plain (effect.Apply o)) d d1 d3 (operands_stay es) a (both (stuck_if t) (plain (effect.Apply o)) d1 d2 d3 (stuck_stays t) b (put_emits (instruction.Plain (effect.Apply o)) d2 d3 p))))
    h

pub choose_emits : {E : Type 0} (r : Result (Unit {0}) E) (es : List Expression) (d d1 : Draft) → OnOk r (Emits (choice es) d d1) → OnOk r (Emits (expression (x.Choose es)) d d1)
choose_emits r es d d1 h = on_ok r (as_form (length d.labels) (choice es) (expression (x.Choose es)) d d1 (λ fs here a b. choose_stands fs here es a b)) h

pub call_emits : {E : Type 0} (r : Result (Unit {0}) E) (f : Callee) (gives : Bool) (es : List Expression) (d d1 d2 : Draft) → Emits (operands es) d d1 → OnOk r (Emits (call f gives (length es)) d1 d2) → OnOk r (Emits (expression (x.Call f gives es)) d d2)
call_emits r f gives es d d1 d2 a h =
    on_ok r
    (λ b.
    as_form (length d.labels) (operands es then call f gives (length es)) (expression (x.Call f gives es)) d d2 (λ fs here a b. call_stands fs here f gives es a b)
    (both (operands es) (call f gives (length es)) d d1 d2 (operands_stay es) a b))
    h

pub native_emits : {E : Type 0} (r : Result (Unit {0}) E) (f : Native) (es : List Expression) (k : ℕ) (d d1 d2 : Draft) → k ≡ length es → Emits (operands es) d d1 → OnOk r (Adds (instruction.Native f k) d1 d2) → OnOk r (Emits (expression (x.Native f es)) d d2)
native_emits r f es k d d1 d2 e a h =
    on_ok r
    (λ p.
    as_form (length d.labels) (operands es then one (instruction.Native f (length es))) (expression (x.Native f es)) d d2 (λ fs here a b. native_stands fs here f es a b)
    (both (operands es) (one (instruction.Native f (length es))) d d1 d2 (operands_stay es) a (put_emits (instruction.Native f (length es)) d1 d2 (subst (λ k. Adds (instruction.Native f k) d1 d2) e p))))
    h

pub after_emits : {E : Type 0} (r : Result (Unit {0}) E) (es us : List Expression) (d d1 d2 : Draft) → Emits (all_let_go es) d d1 → OnOk r (Emits (first us) d1 d2) → OnOk r (Emits (expression (x.After es us)) d d2)
after_emits r es us d d1 d2 a h =
    on_ok r
    (λ b.
    as_form (length d.labels) (all_let_go es then first us) (expression (x.After es us)) d d2 (λ fs here a b. after_stands fs here es us a b)
    (both (all_let_go es) (first us) d d1 d2 (all_go_stay es) a b))
    h

pub named_emits : {E : Type 0} (r : Result (Unit {0}) E) (texts : List (List ℕ)) (labels : List Value) (before : List ℕ) (es : List Expression) (d d1 : Draft) → OnOk r (Emits (named texts labels before es) d d1) → OnOk r (Emits (expression (x.Named texts labels before es)) d d1)
named_emits r texts labels before es d d1 h = on_ok r (as_form (length d.labels) (named texts labels before es) (expression (x.Named texts labels before es)) d d1 (λ fs here a b. named_stands fs here texts labels before es a b)) h

pub make_emits : {E : Type 0} (r : Result (Unit {0}) E) (e : Expression) (class constructor : ℕ) (es : List Expression) (d d1 : Draft) → e ≡ x.Make class constructor es → OnOk r (Emits (stuck_if true) d d1) → OnOk r (Emits (expression e) d d1)
make_emits r e class constructor es d d1 is h = on_ok r (λ a. subst (λ e. Emits (expression e) d d1) (sym is) (as_form (length d.labels) (stuck_if true) (expression (x.Make class constructor es)) d d1 (λ fs here a b. make_stands fs here class constructor es a b) a)) h

pub delete_emits : {E : Type 0} (r : Result (Unit {0}) E) (e : Expression) (es : List Expression) (d d1 : Draft) → e ≡ x.Delete es → OnOk r (Emits (stuck_if true) d d1) → OnOk r (Emits (expression e) d d1)
delete_emits r e es d d1 is h = on_ok r (λ a. subst (λ e. Emits (expression e) d d1) (sym is) (as_form (length d.labels) (stuck_if true) (expression (x.Delete es)) d d1 (λ fs here a b. delete_stands fs here es a b) a)) h

-- one more part, and one more expression whose value is let go
parts_snoc : (fs : List Function) (here : Listing) (es : List Expression) (e : Expression) (a m b : ℕ) → operands es fs here a m → operand e fs here m b → operands (es ++ e ∷ []) fs here a b
parts_snoc fs here [] e a m b h t = record { mid = b; first = subst (λ p. operand e fs here p b) (sym h) t; rest = refl }
parts_snoc fs here (u ∷ us) e a m b h t = record { mid = h.mid; first = h.first; rest = parts_snoc fs here us e h.mid m b h.rest t }

pub more_parts : (es : List Expression) (e : Expression) (d d1 d2 : Draft) → Emits (operands es) d d1 → Emits (operand e) d1 d2 → Emits (operands (es ++ e ∷ [])) d d2
more_parts es e d d1 d2 a b = as_form (length d.labels) (operands es then operand e) (operands (es ++ e ∷ [])) d d2 (λ fs here a b s. parts_snoc fs here es e a s.mid b s.first s.rest) (both (operands es) (operand e) d d1 d2 (operands_stay es) a b)

goes_snoc : (fs : List Function) (here : Listing) (es : List Expression) (e : Expression) (a m b : ℕ) → all_let_go es fs here a m → (expression e then let_go (is_void e)) fs here m b → all_let_go (es ++ e ∷ []) fs here a b
goes_snoc fs here [] e a m b h t = record { mid = b; first = subst (λ p. (expression e then let_go (is_void e)) fs here p b) (sym h) t; rest = refl }
goes_snoc fs here (u ∷ us) e a m b h t = record { mid = h.mid; first = h.first; rest = goes_snoc fs here us e h.mid m b h.rest t }

pub more_goes : (es : List Expression) (e : Expression) (d d1 d2 d3 : Draft) → Emits (all_let_go es) d d1 → Emits (expression e) d1 d2 → Emits (let_go (is_void e)) d2 d3 → Emits (all_let_go (es ++ e ∷ [])) d d3
more_goes es e d d1 d2 d3 a b g = as_form (length d.labels) (all_let_go es then (expression e then let_go (is_void e))) (all_let_go (es ++ e ∷ [])) d d3 (λ fs here a b s. goes_snoc fs here es e a s.mid b s.first s.rest) (both (all_let_go es) (expression e then let_go (is_void e)) d d1 d3 (all_go_stay es) a (both (expression e) (let_go (is_void e)) d1 d2 d3 (expression_stays e) b g))

-- the first of some expressions, and the second
pub no_first : {E : Type 0} (r : Result (Unit {0}) E) (es : List Expression) (d d1 : Draft) → es ≡ [] → OnOk r (Emits (stuck_if true) d d1) → OnOk r (Emits (first es) d d1)
no_first r es d d1 e h = on_ok r (λ a. subst (λ es. Emits (first es) d d1) (sym e) a) h

pub first_emits : {E : Type 0} (r : Result (Unit {0}) E) (es us : List Expression) (u : Expression) (d d1 : Draft) → es ≡ u ∷ us → OnOk r (Emits (operand u) d d1) → OnOk r (Emits (first es) d d1)
first_emits r es us u d d1 e h = on_ok r (λ a. subst (λ es. Emits (first es) d d1) (sym e) a) h

no_second_in : (es : List Expression) (d d1 : Draft) → length es < 2 → Emits (stuck_if true) d d1 → Emits (second es) d d1
no_second_in [] d d1 lt a = a
no_second_in (e ∷ []) d d1 lt a = a
no_second_in (e ∷ u ∷ us) d d1 lt a = absurd (omega (arith, lt))

pub no_second : {E : Type 0} (r : Result (Unit {0}) E) (es : List Expression) (d d1 : Draft) → length es < 2 → OnOk r (Emits (stuck_if true) d d1) → OnOk r (Emits (second es) d d1)
no_second r es d d1 e h = on_ok r (no_second_in es d d1 e) h

second_in : (es : List Expression) (u x : Expression) (d d1 : Draft) → 2 ≤ length es → u ≡ get_or es 1 x → Emits (operand u) d d1 → Emits (second es) d d1
second_in [] u x d d1 le e a = absurd (omega (arith, le))
second_in (y ∷ []) u x d d1 le e a = absurd (omega (arith, le))
second_in (y ∷ z ∷ zs) u x d d1 le e a = subst (λ u. Emits (operand u) d d1) e a

pub second_emits : {E : Type 0} (r : Result (Unit {0}) E) (es : List Expression) (u x : Expression) (d d1 : Draft) → 2 ≤ length es → u ≡ get_or es 1 x → OnOk r (Emits (operand u) d d1) → OnOk r (Emits (second es) d d1)
second_emits r es u x d d1 le e h = on_ok r (second_in es u x d d1 le e) h

no_third_in : (es : List Expression) (d d1 : Draft) → length es < 3 → Emits (stuck_if true) d d1 → Emits (third es) d d1
no_third_in [] d d1 lt a = a
no_third_in (e ∷ es) d d1 lt a = no_second_in es d d1 (omega (arith, lt)) a

pub no_third : {E : Type 0} (r : Result (Unit {0}) E) (es : List Expression) (d d1 : Draft) → length es < 3 → OnOk r (Emits (stuck_if true) d d1) → OnOk r (Emits (third es) d d1)
no_third r es d d1 e h = on_ok r (no_third_in es d d1 e) h

third_in : (es : List Expression) (u x : Expression) (d d1 : Draft) → 3 ≤ length es → u ≡ get_or es 2 x → Emits (operand u) d d1 → Emits (third es) d d1
third_in [] u x d d1 le e a = absurd (omega (arith, le))
third_in (y ∷ ys) u x d d1 le e a = second_in ys u x d d1 (omega (arith, le)) e a

pub third_emits : {E : Type 0} (r : Result (Unit {0}) E) (es : List Expression) (u x : Expression) (d d1 : Draft) → 3 ≤ length es → u ≡ get_or es 2 x → OnOk r (Emits (operand u) d d1) → OnOk r (Emits (third es) d d1)
third_emits r es u x d d1 le e h = on_ok r (third_in es u x d d1 le e) h

pub no_choice : {E : Type 0} (r : Result (Unit {0}) E) (es : List Expression) (d d1 : Draft) → es ≡ [] → OnOk r (Emits (stuck_if true) d d1) → OnOk r (Emits (choice es) d d1)
no_choice r es d d1 e h = on_ok r (λ a. subst (λ es. Emits (choice es) d d1) (sym e) a) h

-- a condition, and then the first or the second of two codes
module _ (test : Coding) (A B : Coding) (other out : ℕ) (d d1 d2 d3 d4 d5 d6 : Draft) (nother : NewLabel other d d1) (nout : NewLabel out d1 d2) (tested : Emits test d2 d3) (skip : Adds (instruction.Unless other) d3 d4) (one : Emits A d4 d5) (leave : Adds (instruction.Jump out) d5 d6) where
  pub other_waits : Unplaced other d6
  other_waits = still_added _ other d5 d6 leave (still_form A other d4 d5 one (still_added _ other d3 d4 skip (still_form test other d2 d3 tested (still_new out other d1 d2 nout (new_unplaced other d d1 nother)))))

  out_before : Unplaced out d6
  out_before = still_added _ out d5 d6 leave (still_form A out d4 d5 one (still_added _ out d3 d4 skip (still_form test out d2 d3 tested (new_unplaced out d1 d2 nout))))

  module _ (d7 d8 : Draft) (here : SetLabel other d6 d7) (two : Emits B d7 d8) where
    pub out_waits : Unplaced out d8
    out_waits =
        let n = new_other out other d1 d2 nout (new_unplaced other d d1 nother) in
        still_form B out d7 d8 two (still_set other out d6 d7 (λ e. n (sym e)) here out_before)

    pub choice_written : (d9 : Draft) → Stays test → Stays A → Stays B → SetLabel out d8 d9 → Emits (with_label λ other. with_label λ out. test then unless other then A then jump out then label other then B then label out) d d9
    choice_written d9 s a b end =
        let n = length d.labels in
        then_labelled n other _ d d1 d9 (omega arith) nother λ from_other le1.
        then_labelled n out _ d1 d2 d9 le1 nout λ from_out le2.
        form n test _ d2 d3 d9 s le2 tested λ le3.
        then_added n (instruction.Unless other) _ d3 d4 d9 le3 skip λ le4.
        form n A _ d4 d5 d9 a le4 one λ le5.
        then_added n (instruction.Jump out) _ d5 d6 d9 le5 leave λ le6.
        then_placed n other _ d6 d7 d9 le6 other_waits from_other here λ le7.
        form n B _ d7 d8 d9 b le7 two λ le8.
        places n out d8 d9 out_waits from_out end

pub choice_emits : {E : Type 0} (r : Result (Unit {0}) E) (ps : List Expression) (c : Expression) (es : List Expression) (other out : ℕ) (d d1 d2 d3 d4 d5 d6 d7 d8 d9 : Draft) → ps ≡ c ∷ es → NewLabel other d d1 → NewLabel out d1 d2 → Emits (operand c) d2 d3 → Adds (instruction.Unless other) d3 d4 → Emits (second ps) d4 d5 → Adds (instruction.Jump out) d5 d6 → SetLabel other d6 d7 → Emits (third ps) d7 d8 → OnOk r (SetLabel out d8 d9) → OnOk r (Emits (choice ps) d d9)
choice_emits r ps c es other out d d1 d2 d3 d4 d5 d6 d7 d8 d9 is nother nout test skip one leave here two h =
    let one' : Emits (first es) d4 d5 = subst (λ ps. Emits (second ps) d4 d5) is one in
    let two' : Emits (second es) d7 d8 = subst (λ ps. Emits (third ps) d7 d8) is two in
    on_ok r (λ end. subst (λ ps. Emits (choice ps) d d9) (sym is) (choice_written (operand c) (first es) (second es) other out d d1 d2 d3 d4 d5 d6 nother nout test skip one' leave d7 d8 here two' d9 (operand_stays c) (first_stays es) (second_stays es) end)) h

-- a comparison with a number
number_sort : (k : IntKind) (n : ℤ) → sort_of (value.Num k n) ≡ Some (sort.Number k)
unfolding out-Value denote.Hole.Carrier.out
number_sort k n = refl

pub equals_emits : {E : Type 0} (r : Result (Unit {0}) E) (v : Value) (k : IntKind) (n : ℤ) (d d1 d2 : Draft) → v ≡ value.Num k n → Emits (push (value.Num k n)) d d1 → OnOk r (Adds (instruction.Plain (effect.Apply (operator.Binary op.Equal (sort.Number k)))) d1 d2) → OnOk r (Emits (equals v) d d2)
equals_emits r v k n d d1 d2 e a h =
    on_ok r
    (λ b.
    subst (λ v. Emits (equals v) d d2) (sym e)
    (as_form (length d.labels) (push (value.Num k n) then plain (effect.Apply (operator.Binary op.Equal (sort.Number k)))) (equals (value.Num k n)) d d2
    (λ fs here a b s h. record { kind = k; is_number = number_sort k n; is = s })
    (both (push (value.Num k n)) (plain (effect.Apply (operator.Binary op.Equal (sort.Number k)))) d d1 d2 (push_stays (value.Num k n)) a (put_emits _ d1 d2 b))))
    h

pub no_equals : {E : Type 0} (r : Result (Unit {0}) E) (v : Value) (d d1 : Draft) → is_number v ≡ false → OnOk r (Emits (stuck_if true) d d1) → OnOk r (Emits (equals v) d d1)
no_equals r v d d1 e h = on_ok r (λ a. as_form (length d.labels) (stuck_if true) (equals v) d d1 (λ fs here a b s h. absurd (false≢true (sym e ∙ h))) a) h

-- a text before the one on top, and the digits of a number
pub join_emits : {E : Type 0} (r : Result (Unit {0}) E) (t : Bool) (before : List ℕ) (d d1 : Draft) → t ≡ true → OnOk r (Adds (instruction.Plain (effect.Apply (operator.Binary op.Add sort.String))) d d1) → OnOk r (Emits (join t before) d d1)
join_emits r t before d d1 e h = on_ok r (λ a. subst (λ t. Emits (join t before) d d1) (sym e) (as_form (length d.labels) (one (instruction.Plain (effect.Apply (operator.Binary op.Add sort.String)))) (join true before) d d1 (λ fs here a b s. s) (put_emits _ d d1 a))) h

pub long_emits : {E : Type 0} (r : Result (Unit {0}) E) (t : Bool) (before text : List ℕ) (d d1 : Draft) → t ≡ false → text ≡ before → OnOk r (Emits (push (value.Str text)) d d1) → OnOk r (Emits (join t before) d d1)
long_emits r t before text d d1 e is h = on_ok r (λ a. subst (λ t. Emits (join t before) d d1) (sym e) (as_form (length d.labels) (push (value.Str before)) (join false before) d d1 (λ fs here a b s. s) (subst (λ t. Emits (push (value.Str t)) d d1) is a))) h

pub no_name_emits : {E : Type 0} (r : Result (Unit {0}) E) (before : List ℕ) (d d1 d2 : Draft) → Adds (instruction.Plain (effect.Apply (operator.Convert sort.String))) d d1 → OnOk r (Emits (join (is_short before) before) d1 d2) → OnOk r (Emits (no_name before) d d2)
no_name_emits r before d d1 d2 a h = on_ok r (λ b. both (plain (effect.Apply (operator.Convert sort.String))) (join (is_short before) before) d d1 d2 (one_stays _) (put_emits _ d d1 a) b) h

pub names_end : {E : Type 0} (r : Result (Unit {0}) E) (before : List ℕ) (out : ℕ) (vs : List Value) (ss : List (List ℕ)) (d d1 : Draft) → vs ≡ [] → OnOk r (Emits (no_name before) d d1) → OnOk r (Emits (names before out vs ss) d d1)
names_end r before out vs ss d d1 e h = on_ok r (λ a. subst (λ vs. Emits (names before out vs ss) d d1) (sym e) a) h

pub texts_end : {E : Type 0} (r : Result (Unit {0}) E) (before : List ℕ) (out : ℕ) (vs : List Value) (ss : List (List ℕ)) (d d1 : Draft) → ss ≡ [] → OnOk r (Emits (no_name before) d d1) → OnOk r (Emits (names before out vs ss) d d1)
texts_end r before out vs ss d d1 e h = on_ok r (λ a. subst (λ ss. Emits (names before out vs ss) d d1) (sym e) (no_texts vs a)) h
  where
    no_texts : (vs : List Value) → Emits (no_name before) d d1 → Emits (names before out vs []) d d1
    no_texts [] a = a
    no_texts (v ∷ vs) a = a

-- a name of a number
module _ (before : List ℕ) (out : ℕ) (v : Value) (vs : List Value) (s : List ℕ) (ss : List (List ℕ)) (next : ℕ) (d d1 d2 d3 d4 d5 d6 d7 d8 : Draft) (nl : NewLabel next d d1) (twice : Adds (instruction.Plain effect.Twice) d1 d2) (test : Emits (equals v) d2 d3) (skip : Adds (instruction.Unless next) d3 d4) (drop1 : Adds (instruction.Plain effect.Drop) d4 d5) (drop2 : Adds (instruction.Plain effect.Drop) d5 d6) (name : Emits (push (value.Str s)) d6 d7) (leave : Adds (instruction.Jump out) d7 d8) where
  pub next_waits : Unplaced next d8
  next_waits = still_added _ next d7 d8 leave (still_form (push (value.Str s)) next d6 d7 name (still_added _ next d5 d6 drop2 (still_added _ next d4 d5 drop1 (still_added _ next d3 d4 skip (still_form (equals v) next d2 d3 test (still_added _ next d1 d2 twice (new_unplaced next d d1 nl)))))))

  pub name_written : (d9 d10 : Draft) → SetLabel next d8 d9 → Emits (names before out vs ss) d9 d10 → Emits (names before out (v ∷ vs) (s ∷ ss)) d d10
  name_written d9 d10 here more =
      let n = length d.labels in
      then_labelled n next _ d d1 d10 (omega arith) nl λ from_next le1.
      then_added n _ _ d1 d2 d10 le1 twice λ le2.
      form n (equals v) _ d2 d3 d10 (equals_stays v) le2 test λ le3.
      then_added n _ _ d3 d4 d10 le3 skip λ le4.
      then_added n _ _ d4 d5 d10 le4 drop1 λ le5.
      then_added n _ _ d5 d6 d10 le5 drop2 λ le6.
      form n (push (value.Str s)) _ d6 d7 d10 (push_stays (value.Str s)) le6 name λ le7.
      then_added n _ _ d7 d8 d10 le7 leave λ le8.
      then_placed n next _ d8 d9 d10 le8 next_waits from_next here λ le9.
      less n (length d9.labels) (names before out vs ss) d9 d10 le9 more

pub name_emits : {E : Type 0} (r : Result (Unit {0}) E) (before : List ℕ) (out : ℕ) (ls : List Value) (ts : List (List ℕ)) (v : Value) (vs : List Value) (s u : List ℕ) (ss : List (List ℕ)) (next : ℕ) (d d1 d2 d3 d4 d5 d6 d7 d8 d9 d10 : Draft) → ls ≡ v ∷ vs → ts ≡ s ∷ ss → u ≡ s → NewLabel next d d1 → Adds (instruction.Plain effect.Twice) d1 d2 → Emits (equals v) d2 d3 → Adds (instruction.Unless next) d3 d4 → Adds (instruction.Plain effect.Drop) d4 d5 → Adds (instruction.Plain effect.Drop) d5 d6 → Emits (push (value.Str u)) d6 d7 → Adds (instruction.Jump out) d7 d8 → SetLabel next d8 d9 → OnOk r (Emits (names before out vs ss) d9 d10) → OnOk r (Emits (names before out ls ts) d d10)
name_emits r before out ls ts v vs s u ss next d d1 d2 d3 d4 d5 d6 d7 d8 d9 d10 is js us nl twice test skip drop1 drop2 name leave here h =
    on_ok r
    (λ more.
    subst (λ ls. Emits (names before out ls ts) d d10) (sym is) (subst (λ ts. Emits (names before out (v ∷ vs) ts) d d10) (sym js)
    (name_written before out v vs s ss next d d1 d2 d3 d4 d5 d6 d7 d8 nl twice test skip drop1 drop2 (subst (λ t. Emits (push (value.Str t)) d6 d7) us name) leave d9 d10 here more)))
    h

-- `EnumToString`
pub out_still : (texts : List (List ℕ)) (labels : List Value) (before text : List ℕ) (es : List Expression) (out : ℕ) (d d1 d2 d3 d4 : Draft) → NewLabel out d d1 → Emits (push (value.Str text)) d1 d2 → Emits (first es) d2 d3 → Emits (names before out labels texts) d3 d4 → Unplaced out d4
out_still texts labels before text es out d d1 d2 d3 d4 nl a b c = still_form (names before out labels texts) out d3 d4 c (still_form (first es) out d2 d3 b (still_form (push (value.Str text)) out d1 d2 a (new_unplaced out d d1 nl)))

pub all_named : {E : Type 0} (r : Result (Unit {0}) E) (texts : List (List ℕ)) (labels : List Value) (before text : List ℕ) (es : List Expression) (out : ℕ) (d d1 d2 d3 d4 d5 : Draft) → text ≡ if_short before → NewLabel out d d1 → Emits (push (value.Str text)) d1 d2 → Emits (first es) d2 d3 → Emits (names before out labels texts) d3 d4 → OnOk r (SetLabel out d4 d5) → OnOk r (Emits (named texts labels before es) d d5)
all_named r texts labels before text es out d d1 d2 d3 d4 d5 is nl a b c h =
    on_ok r
    (λ end.
    let n = length d.labels in
    then_labelled n out _ d d1 d5 (omega arith) nl λ from le1.
    form n (push (value.Str (if_short before))) _ d1 d2 d5 (push_stays _) le1 (subst (λ t. Emits (push (value.Str t)) d1 d2) is a) λ le2.
    form n (first es) _ d2 d3 d5 (first_stays es) le2 b λ le3.
    form n (names before out labels texts) _ d3 d4 d5 (names_stay before out labels texts) le3 c λ le4.
    places n out d4 d5 (out_still texts labels before text es out d d1 d2 d3 d4 nl a b c) from end)
    h
