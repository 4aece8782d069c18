-- The machine does what expressions do.
use denote.Hole.Carrier.{out}
use Rattle.std.proofs.Common.{◌≡◌, ℕ, zero, suc, ◌+◌, ◌==◌, not, Bool, true, false, List, [], ◌∷◌, ◌++◌, length, Option, Some, None, refl, sym, ap, ◌∙◌, subst, arith, append-nil, ◌<◌, length-append}
use Rattle.std.specs.Prelude.{is_some}
use Rattle.std.proofs.lemmas.Bool.{eqb-true, leb-false, lt-leb}
use Rattle.fx8.specs.declared.int_operator.IntOperator.TheVariants as op
use Rattle.natives.specs.declared.native.Native.{Native}
use Rattle.mql_mean.specs.declared.value.Value.{Value, out-Value}
use Rattle.mql_mean.specs.declared.value.Value.TheOpen.{Value-F}
use Rattle.mql_mean.specs.declared.error.ErrorKind.TheVariants.{CellsExhausted}
use Rattle.mql_mean.specs.declared.value.Value.TheVariants as value
use Rattle.mql_meaning.specs.declared.store.Store.{Store}
use Rattle.mql_meaning.specs.declared.types.Sort.{Sort}
use Rattle.mql_meaning.specs.declared.types.Sort.TheVariants as sort
use Rattle.mql_meaning.specs.declared.operator.Operator.{Operator}
use Rattle.mql_meaning.specs.declared.operator.Operator.TheVariants as operator
use Rattle.mql_meaning.specs.declared.tree.Callee.TheVariants as callee
use Rattle.mql_meaning.specs.declared.tree.Class.{Class}
use Rattle.mql_meaning.specs.declared.tree.Expression.{Expression, Constant, Apply', Choose', Call', Native', Make', Delete', After', Named', Row_of-Expression, end_of-Expression, more_of-Expression}
use Rattle.mql_meaning.specs.Changes.{Stuck, Out, Done, Over, Change, after, give, the, must, fail, either}
use Rattle.mql_meaning.specs.Runs.{World, Res, Go, End, Act, bind, ◌>>=◌, pure, in_run, change}
use Rattle.mql_meaning.specs.Operands.{Operand, Val, At, most_units, text, none, on_one, on_two}
use Rattle.mql_meaning.specs.Operators.{binary, convert_at, convert, holds, sort_of}
use Rattle.mql_meaning.specs.Texts.{number_text}
use Rattle.fx8.specs.Decimals.{text_of}
use Rattle.mql_meaning.specs.Apply.{apply}
use Rattle.mql_meaning.specs.Calls.{native_void, calls_native}
use Rattle.mql_meaning.specs.Dispatch.{condition, equals, equals_operand, name_in, name_of}
use Rattle.mql_meaning.specs.Expressions.{Call, is_void, evaluates, operands, chooses, picks, lets_go, operand_of, test_of, let_go}
use Rattle.stack_code.specs.declared.code.Code.{Code}
use Rattle.stack_code.specs.declared.code.FunctionCode.{FunctionCode}
use Rattle.stack_code.specs.declared.code.Effect.TheVariants as effect
use Rattle.stack_code.specs.declared.code.Instruction.TheVariants as instruction
use Rattle.stack_code.specs.Machine.{Back, Next, On, land, Taken, beside, takes, operands_of, then_upon, function_at, label_at, branch, upon, arguments_of, starts, calls, goes_back, Comes}
use Rattle.stack_follows.specs.Spans.{Listing, One, Plain, Unless, StuckIf}
use Rattle.stack_follows.specs.Expressions.{is_short, if_short, count, Equals, JoinAt, CallOf, NamesAt, ExpressionAt, PartsAt, ChoiceAt, PickAt, AllLetGo, OperandAt, LetsGo}
use Rattle.stack_follows.specs.Stands.{listing}
use Rattle.stack_follows.proofs.Steps.{Given, anything, Does, Yields, stays, then_does, then_does_with, from_does, to_does, pure_does, change_does, give_does, after_does, known_does, same_change, one_comes, effect_does, effect_comes, jump_to, moves, unless_does, unless_void, number_literal, text_literal, text_long, if_short_literal, push_does, push_comes, push_fails, stuck_comes, stuck_does, must_give_does, let_go_comes}
use Rattle.stack_follows.proofs.Natives.{native_spares}

-- operands upon others, the last one topmost
abbrev push : List Operand → List Operand → List Operand
push [] ops = ops
push (x ∷ xs) ops = push xs (x ∷ ops)

taken_before : (xs : List Operand) (c j : ℕ) (ops before : List Operand) → j ≡ length xs + c → takes j (push xs ops) before ≡ takes c ops (xs ++ before)
taken_before [] c j ops before e = ap (λ j. takes j ops before) (let e' : j ≡ c = omega (arith, e) in e')
taken_before (x ∷ xs) c j ops before e = taken_before xs (suc c) j (x ∷ ops) before (omega (arith, e))

taken : (xs : List Operand) (j : ℕ) (ops : List Operand) → length xs ≡ j → takes j (push xs ops) [] ≡ Some (beside xs ops)
taken xs j ops e = taken_before xs 0 j ops [] (omega (arith, e)) ∙ ap (λ xs. Some (beside xs ops)) (append-nil xs)

-- an operator with another number of operands means nothing
wrong : {A : Type 0} → true ≡ false → A
wrong e = absurd (subst (λ t. elim t as (λ _. Type 0) [ true ↦ Unit {0} | false ↦ ⊥ ]) e (tt {0}))

none_stuck : {B : Type 0} (xs : List Operand) (f : Change B) (store : Store) → (length xs == 0) ≡ false → none f xs store ≡ Over Stuck store
none_stuck [] f store e = wrong e
none_stuck (x ∷ xs) f store e = refl

one_stuck : {B : Type 0} (xs : List Operand) (f : Operand → Change B) (store : Store) → (length xs == 1) ≡ false → on_one f xs store ≡ Over Stuck store
one_stuck [] f store e = refl
one_stuck (x ∷ []) f store e = wrong e
one_stuck (x ∷ y ∷ xs) f store e = refl

two_stuck : {B : Type 0} (xs : List Operand) (f : Operand → Operand → Change B) (store : Store) → (length xs == 2) ≡ false → on_two f xs store ≡ Over Stuck store
two_stuck [] f store e = refl
two_stuck (x ∷ []) f store e = refl
two_stuck (x ∷ y ∷ []) f store e = wrong e
two_stuck (x ∷ y ∷ z ∷ xs) f store e = refl

apply_stuck : (classes : List Class) (o : Operator) (xs : List Operand) (store : Store) → (length xs == operands_of o) ≡ false → apply classes o xs store ≡ Over Stuck store
apply_stuck classes (operator.Local l) xs store e = none_stuck xs _ store e
apply_stuck classes (operator.Global g) xs store e = none_stuck xs _ store e
apply_stuck classes operator.This xs store e = none_stuck xs _ store e
apply_stuck classes (operator.Field i) xs store e = one_stuck xs _ store e
apply_stuck classes operator.Index xs store e = two_stuck xs _ store e
apply_stuck classes operator.Object xs store e = one_stuck xs _ store e
apply_stuck classes operator.Read xs store e = one_stuck xs _ store e
apply_stuck classes operator.PointerOf xs store e = one_stuck xs _ store e
apply_stuck classes operator.Keep xs store e = two_stuck xs _ store e
apply_stuck classes (operator.Update o t) xs store e = two_stuck xs _ store e
apply_stuck classes (operator.Bump b) xs store e = one_stuck xs _ store e
apply_stuck classes (operator.Unary u t) xs store e = one_stuck xs _ store e
apply_stuck classes (operator.Binary o t) xs store e = two_stuck xs _ store e
apply_stuck classes (operator.Convert t) xs store e = one_stuck xs _ store e
apply_stuck classes (operator.Cast k s) xs store e = one_stuck xs _ store e

-- whether the code of a function gives a value
abbrev pub gives_in : Option FunctionCode → Bool
gives_in None = false
gives_in (Some c) = is_some c.result

-- within so many steps, the code of each function does what a call of it does
abbrev pub CallDoes : Code → ℕ → Call → Type 0
CallDoes code d call = (k : ℕ) (xs ops : List Operand) (backs : List Back) → Does code d (starts code.classes (function_at code k) k xs ops backs) (call k xs) (λ v. goes_back backs (gives_in (function_at code k)) v ops)

-- a value upon others, where one is given
upon_is : (gives : Bool) (v : Value) (ops : List Operand) → upon gives v ops ≡ unless_void (not gives) (Val v) ops
upon_is true v ops = refl
upon_is false v ops = refl

upon_not : (void : Bool) (v : Value) (ops : List Operand) → upon (not void) v ops ≡ unless_void void (Val v) ops
upon_not true v ops = refl
upon_not false v ops = refl

abbrev equal_then : Value → Value → Sort → Change Bool
equal_then v number t store = after (binary op.Equal t v number store) (λ b. holds b)

-- a comparison with a label, and what a condition makes of it
equal_at : (classes : List Class) (x : Operand) (number : Value) (t : Sort) (store : Store) → sort_of number ≡ Some t → after (apply classes (operator.Binary op.Equal t) (x ∷ Val number ∷ []) store) condition ≡ equals_operand x number store
equal_at classes (At p) number t store e = refl
equal_at classes (Val v) number t store e = compared (binary op.Equal t v number store) ∙ sym (ap (λ o. after (the o store) (λ t. equal_then v number t)) e)
  where
    compared : (o : Out Value) → after (after o (λ b. give (Val b))) condition ≡ after o (λ b. holds b)
    compared (Done b s) = refl
    compared (Over e s) = refl

-- the name of a number by its first name, and by none
first_name : (x : Operand) (number : Value) (ks : List Value) (s : List ℕ) (ss : List (List ℕ)) (before : List ℕ) (store : Store) → after (equals_operand x number store) (λ b. either b (λ store. after (text s store) (λ y. give (Val y))) (name_of x ks ss before)) ≡ name_of x (number ∷ ks) (s ∷ ss) before store
first_name (At p) number ks s ss before store = refl
first_name (Val v) number ks s ss before store = by_equal (equals v number store)
  where
    by_truth : (b : Bool) (store : Store) → either b (λ store. after (text s store) (λ y. give (Val y))) (name_of (Val v) ks ss before) store ≡ after (either b (text s) (name_in v ks ss before) store) (λ y. give (Val y))
    by_truth true store = refl
    by_truth false store = refl

    by_equal : (o : Out Bool) → after o (λ b. either b (λ store. after (text s store) (λ y. give (Val y))) (name_of (Val v) ks ss before)) ≡ after (after o (λ b. either b (text s) (name_in v ks ss before))) (λ y. give (Val y))
    by_equal (Done b store) = by_truth b store
    by_equal (Over e store) = refl

abbrev by_number : List Class → Operand → List ℕ → Change Operand
by_number classes x before store = after (apply classes (operator.Convert sort.String) (x ∷ []) store) (λ y. apply classes (operator.Binary op.Add sort.String) (Val (value.Str before) ∷ y ∷ []))

converted_name : (o : Out Value) (classes : List Class) (before : List ℕ) → after (after o (λ y. give (Val y))) (λ y. apply classes (operator.Binary op.Add sort.String) (Val (value.Str before) ∷ y ∷ [])) ≡ after (after o (λ y. binary op.Add sort.String (value.Str before) y)) (λ y. give (Val y))
converted_name (Done y store) classes before = refl
converted_name (Over e store) classes before = refl

no_name : (classes : List Class) (x : Operand) (ss : List (List ℕ)) (before : List ℕ) (store : Store) → by_number classes x before store ≡ name_of x [] ss before store
no_name classes (At p) ss before store = refl
no_name classes (Val v) ss before store = converted_name (convert sort.String v store) classes before

no_text : (classes : List Class) (x : Operand) (number : Value) (ks : List Value) (before : List ℕ) (store : Store) → by_number classes x before store ≡ name_of x (number ∷ ks) [] before store
no_text classes (At p) number ks before store = refl
no_text classes (Val v) number ks before store = converted_name (convert sort.String v store) classes before

-- a text that is too long is put before another one
longer : (s t : List ℕ) → is_short s ≡ false → is_short (s ++ t) ≡ false
longer s t e =
    let long : most_units < length s = leb-false (length s) most_units e in
    let joined : length (s ++ t) ≡ length s + length t = length-append s t in
    lt-leb (length (s ++ t)) most_units (omega (arith, long, joined))

joins_long : (classes : List Class) (before s : List ℕ) (store : Store) → is_short before ≡ false → after (after (text s store) (λ y. give (Val y))) (λ y. apply classes (operator.Binary op.Add sort.String) (Val (value.Str before) ∷ y ∷ [])) ≡ after (after (text s store) (λ y. give (Val y))) (λ y store. fail CellsExhausted store)
unfolding out-Value out
joins_long classes before s store e = by_length (is_short s)
  where
    by_length : (b : Bool) → after (after (after (must b CellsExhausted store) (λ _. give (value.Str s))) (λ y. give (Val y))) (λ y. apply classes (operator.Binary op.Add sort.String) (Val (value.Str before) ∷ y ∷ [])) ≡ after (after (after (must b CellsExhausted store) (λ _. give (value.Str s))) (λ y. give (Val y))) (λ y store. fail CellsExhausted store)
    by_length true = ap (λ o. after o (λ v. give (Val v))) (text_long (before ++ s) store (longer before s e))
    by_length false = refl

too_long : (classes : List Class) (before : List ℕ) (x : Operand) (store : Store) → is_short before ≡ false → by_number classes x before store ≡ after (apply classes (operator.Convert sort.String) (x ∷ []) store) (λ y store. fail CellsExhausted store)
too_long classes before (At p) store e = refl
too_long classes before (Val v) store e = by_value (out-Value v)
  where
    by_value : (f : Value-F Value) → after (after (convert_at sort.String f store) (λ y. give (Val y))) (λ y. apply classes (operator.Binary op.Add sort.String) (Val (value.Str before) ∷ y ∷ [])) ≡ after (after (convert_at sort.String f store) (λ y. give (Val y))) (λ y store. fail CellsExhausted store)
    by_value (Value-F.Num j n) = joins_long classes before (number_text j n) store e
    by_value (Value-F.Dbl n) = joins_long classes before (text_of n) store e
    by_value (Value-F.Str s) = joins_long classes before s store e
    by_value (Value-F.Ptr zero) = joins_long classes before [] store e
    by_value (Value-F.Ptr (suc q)) = refl
    by_value _ = refl

-- a row gives as many operands as it has parts
given_then : {A B : Type 0} (P : A → Type 0) (Q : B → Type 0) (r : Res A) (g : A → Act B) → Given P r → ((a : A) → P a → Yields Q (g a)) → Given Q (bind r g)
given_then P Q (Go a n w) g h s = (s a h).is n w
given_then P Q (End e n w) g h s = tt

then_yields : {A B : Type 0} {P : A → Type 0} {Q : B → Type 0} {f : Act A} {g : A → Act B} → Yields P f → ((a : A) → P a → Yields Q (g a)) → Yields Q (f >>= g)
unfolding ◌>>=◌
then_yields {P} {Q} {f} {g} s t = record { is = λ n w. given_then P Q (f n w) g (s.is n w) t }

pure_yields : {A : Type 0} {P : A → Type 0} (a : A) → P a → Yields P (pure a)
unfolding pure
pure_yields a h = record { is = λ n w. h }

any_yields : {A : Type 0} (f : Act A) → Yields (λ _. Unit {0}) f
any_yields f = record { is = λ n w. anything (f n w) }

module _ (code : Code) (k : ℕ) (call : Call) (d : ℕ) (call_does : CallDoes code d call) (backs : List Back) where
  abbrev here : Listing
  here = listing code k

  parts_yield : {m : _} (es : Row_of-Expression m) → Yields (λ xs. length xs ≡ count es) (operands code.classes call es)
  parts_yield end_of-Expression = pure_yields [] refl
  parts_yield (more_of-Expression e es) = then_yields (any_yields _) (λ x u. then_yields (parts_yield es) (λ xs h. pure_yields (x ∷ xs) (ap suc h)))

  -- an operator on the operands that were pushed for it
  operator_does : {pc mid pc' : ℕ} (b : Bool) (o : Operator) (xs ops : List Operand) → (length xs == operands_of o) ≡ b → StuckIf here (not b) pc mid → Plain here (effect.Apply o) mid pc' → Does code d (On k pc (push xs ops) backs) (change (apply code.classes o xs)) (λ x. On k pc' (x ∷ ops) backs)
  operator_does true o xs ops e st at =
      from_does (moves st) (effect_does (apply code.classes o xs) (λ x. x ∷ ops) at
      (λ store. ap (λ t. after (the t store) (λ (t : Taken (List Operand)). then_upon (apply code.classes o t.it) t.rest)) (taken xs (operands_of o) ops (eqb-true (length xs) (operands_of o) e))))
  operator_does false o xs ops e st at = same_change (λ store. sym (apply_stuck code.classes o xs store e)) (change_does (λ store. Over Stuck store) (stuck_comes st))

  -- a call with the operands that were pushed for it
  call_begins : {pc pc' : ℕ} (f : ℕ) (gives : Bool) (xs ops : List Operand) (c : ℕ) → length xs ≡ c → CallOf here f gives c pc pc' → (n : ℕ) (w : World) → Comes code (On k pc (push xs ops) backs n w) (starts code.classes (function_at code f) f xs ops (record { function = k; place = pc + 1 } ∷ backs) n w)
  unfolding change
  call_begins {pc} f gives xs ops c e at n w = let back : Back = record { function = k; place = pc + 1 } in one_comes at.one
      (ap (λ co. calls code.classes co f back (push xs ops) backs n w) at.takes.is
      ∙ ap (λ t. land (in_run (the t w.store) n w) (λ (t : Taken (List Operand)). starts code.classes (Some at.takes.function) f t.it t.rest (back ∷ backs))) (taken xs (arguments_of at.takes.function) ops (e ∙ sym at.takes.takes))
      ∙ sym (ap (λ co. starts code.classes co f xs ops (back ∷ backs) n w) at.takes.is))

  -- a native function with the operands that were pushed for it
  native_does : {pc pc' : ℕ} (f : Native) (xs ops : List Operand) (c : ℕ) → length xs ≡ c → One here (instruction.Native f c) pc pc' → Does code d (On k pc (push xs ops) backs) (calls_native f xs) (λ v. On k pc' (unless_void (native_void f) (Val v) ops) backs)
  unfolding change
  native_does {pc} f xs ops c e at = record {
    runs = λ n w le. record {
      comes = one_comes at
          (ap (λ t. land (in_run (the t w.store) n w) (λ (t : Taken (List Operand)) n w. land (calls_native f t.it n w) (λ v. On k (pc + 1) (upon (not (native_void f)) v t.rest) backs))) (taken xs c ops e)
          ∙ ap (λ q. land (calls_native f xs n w) (λ v. On k q (upon (not (native_void f)) v ops) backs)) at.next
          ∙ same_land _ (calls_native f xs n w));
      within = (native_spares f xs).is n w;
    };
  }
    where
      same_land : (q : ℕ) (r : Res Value) → land r (λ v. On k q (upon (not (native_void f)) v ops) backs) ≡ land r (λ v. On k q (unless_void (native_void f) (Val v) ops) backs)
      same_land q (Go v n w) = ap (λ ops. On k q ops backs n w) (upon_not (native_void f) v ops)
      same_land q (End e n w) = refl

  -- the topmost operand is compared with a number, and leads on or to a label
  pub equals_does : {pc p1 p2 p3 l place : ℕ} (x : Operand) (number : Value) (ops : List Operand) → Plain here effect.Twice pc p1 → Equals here number p1 p2 → Unless here l p2 p3 → label_at code k l ≡ Some place → Does code d (On k pc (x ∷ ops) backs) (change (equals_operand x number)) (λ b n w. branch b (On k p3 (x ∷ ops) backs n w) (On k place (x ∷ ops) backs n w))
  equals_does x number ops twice equal un lab =
      from_does (effect_comes {new = x ∷ x ∷ ops} twice (λ store. refl))
      (from_does (push_comes equal.is.first (number_literal number equal.kind equal.is_number))
      (same_change (λ store. equal_at code.classes x number (sort.Number equal.kind) store equal.is_number)
      (after_does (apply code.classes (operator.Binary op.Equal (sort.Number equal.kind)) (x ∷ Val number ∷ [])) condition
      (effect_does (apply code.classes (operator.Binary op.Equal (sort.Number equal.kind)) (x ∷ Val number ∷ [])) (λ y. y ∷ x ∷ ops) equal.is.rest (λ store. refl))
      (λ y. unless_does un lab))))

  -- the name of the number on top
  either_does : {A : Type 0} {yes other : ℕ → World → Next} {to : A → ℕ → World → Next} (b : Bool) (f g : Change A) → Does code d yes (change f) to → Does code d other (change g) to → Does code d (λ n w. branch b (yes n w) (other n w)) (change (either b f g)) to
  either_does true f g s t = record { runs = s.runs }
  either_does false f g s t = record { runs = t.runs }

  by_number_does : {pc mid pc' : ℕ} (b : Bool) (x : Operand) (before : List ℕ) (ops : List Operand) → is_short before ≡ b → Plain here (effect.Apply (operator.Convert sort.String)) pc mid → JoinAt here b before mid pc' → Does code d (On k pc (x ∷ Val (value.Str (either b before [])) ∷ ops) backs) (change (by_number code.classes x before)) (λ y. On k pc' (y ∷ ops) backs)
  by_number_does true x before ops e at join =
      after_does (apply code.classes (operator.Convert sort.String) (x ∷ [])) (λ y. apply code.classes (operator.Binary op.Add sort.String) (Val (value.Str before) ∷ y ∷ []))
      (effect_does (apply code.classes (operator.Convert sort.String) (x ∷ [])) (λ y. y ∷ Val (value.Str before) ∷ ops) at (λ store. refl))
      (λ y. effect_does (apply code.classes (operator.Binary op.Add sort.String) (Val (value.Str before) ∷ y ∷ [])) (λ z. z ∷ ops) join (λ store. refl))
  by_number_does false x before ops e at join =
      same_change (λ store. sym (too_long code.classes before x store e))
      (after_does (apply code.classes (operator.Convert sort.String) (x ∷ [])) (λ y store. fail CellsExhausted store)
      (effect_does (apply code.classes (operator.Convert sort.String) (x ∷ [])) (λ y. y ∷ Val (value.Str []) ∷ ops) at (λ store. refl))
      (λ y. push_fails join (λ store. text_literal before store ∙ text_long before store e)))

  names_does : (out : ℕ) (x : Operand) (ks : List Value) (ss : List (List ℕ)) (before : List ℕ) (ops : List Operand) {pc pc' : ℕ} → NamesAt here before out ks ss pc pc' → label_at code k out ≡ Some pc' → Does code d (On k pc (x ∷ Val (value.Str (if_short before)) ∷ ops) backs) (change (name_of x ks ss before)) (λ y. On k pc' (y ∷ ops) backs)
  names_does out x [] ss before ops at lab = same_change (no_name code.classes x ss before) (by_number_does (is_short before) x before ops refl at.first at.rest)
  names_does out x (number ∷ ks) [] before ops at lab = same_change (no_text code.classes x number ks before) (by_number_does (is_short before) x before ops refl at.first at.rest)
  names_does out x (number ∷ ks) (s ∷ ss) before ops at lab =
      let a1 = at.is in let a2 = a1.rest in let a3 = a2.rest in let a4 = a3.rest in let a5 = a4.rest in let a6 = a5.rest in let a7 = a6.rest in let a8 = a7.rest in
      same_change (first_name x number ks s ss before)
      (after_does (equals_operand x number) (λ b. either b (λ store. after (text s store) (λ y. give (Val y))) (name_of x ks ss before))
      (equals_does x number (Val (value.Str (if_short before)) ∷ ops) a1.first a2.first a3.first a8.first.at)
      (λ b. either_does b _ _
      (from_does (effect_comes {new = Val (value.Str (if_short before)) ∷ ops} a4.first (λ store. refl))
      (from_does (effect_comes {new = ops} a5.first (λ store. refl))
      (after_does (text s) (λ y. give (Val y)) (same_change (text_literal s) (push_does a6.first)) (λ y. give_does _ (jump_to a7.first lab)))))
      (names_does out x ks ss before ops a8.rest lab)))

  picks_does : {m : _} {yes other : ℕ → World → Next} {to : Operand → ℕ → World → Next} (b : Bool) (es : Row_of-Expression m) → Does code d yes (picks code.classes call true es) to → Does code d other (picks code.classes call false es) to → Does code d (λ n w. branch b (yes n w) (other n w)) (picks code.classes call b es) to
  picks_does true es s t = record { runs = s.runs }
  picks_does false es s t = record { runs = t.runs }

  mutual
    pub expression_does : (e : Expression) {pc pc' : ℕ} {ops : List Operand} → ExpressionAt here e pc pc' → Does code d (On k pc ops backs) (evaluates code.classes call e) (λ x. On k pc' (unless_void (is_void e) x ops) backs)
    expression_does (Constant v) at = then_does (push_does at) (λ u. pure_does _ (λ n w. stays refl))
    expression_does (Apply' o p parts) {ops} at =
        then_does_with (parts_yield parts) (parts_do parts at.first)
        (λ xs e. operator_does (length xs == operands_of o) o xs ops refl (subst (λ c. StuckIf here (not (c == operands_of o)) at.mid at.rest.mid) (sym e) at.rest.first) at.rest.rest)
    expression_does (Choose' p parts) at = choice_does parts at
    expression_does (Call' (callee.Direct f) gives p parts) {pc'} {ops} at =
        then_does_with (parts_yield parts) (parts_do parts at.first)
        (λ xs e. known_does f _ (from_does (call_begins f gives xs ops (count parts) e at.rest)
        (then_does (call_does f xs ops (record { function = k; place = at.mid + 1 } ∷ backs))
        (λ v. pure_does _ (λ n w. stays
        (ap (λ g. On k (at.mid + 1) (upon g v ops) backs n w) (ap gives_in at.rest.takes.is ∙ at.rest.takes.result)
        ∙ ap (λ q. On k q (upon gives v ops) backs n w) at.rest.one.next
        ∙ ap (λ ops. On k pc' ops backs n w) (upon_is gives v ops)))))))
    expression_does (Call' (callee.Virtual class signature) gives p parts) at = absurd at.rest
    expression_does (Native' f p parts) {ops} at =
        then_does_with (parts_yield parts) (parts_do parts at.first)
        (λ xs e. then_does (native_does f xs ops (count parts) e at.rest) (λ v. pure_does _ (λ n w. stays refl)))
    expression_does (Make' class constructor p parts) at = absurd at
    expression_does (Delete' p parts) at = absurd at
    expression_does (After' p before q last) at = then_does (all_let_go before at.first) (λ u. pick_does true last at.rest)
    expression_does (Named' texts labels before p parts) {pc'} {ops} at =
        let a1 = at.is in let a2 = a1.rest in let a3 = a2.rest in
        from_does (push_comes a1.first (if_short_literal before))
        (then_does (pick_does true parts a2.first)
        (λ x. to_does (λ y. moves a3.rest.same) (names_does at.label x labels texts before ops a3.first (a3.rest.at ∙ sym (ap (λ q. Some q) a3.rest.same)))))

    parts_do : {m : _} (es : Row_of-Expression m) {pc pc' : ℕ} {ops : List Operand} → PartsAt here es pc pc' → Does code d (On k pc ops backs) (operands code.classes call es) (λ xs. On k pc' (push xs ops) backs)
    parts_do end_of-Expression at = pure_does _ (moves at)
    parts_do (more_of-Expression e es) at =
        then_does (then_does (expression_does e at.first.first) (λ x. must_give_does (is_void e) x at.first.rest))
        (λ x. then_does (parts_do es at.rest) (λ xs. pure_does _ (λ n w. stays refl)))

    choice_does : {m : _} (es : Row_of-Expression m) {pc pc' : ℕ} {ops : List Operand} → ChoiceAt here es pc pc' → Does code d (On k pc ops backs) (chooses code.classes call es) (λ x. On k pc' (x ∷ ops) backs)
    choice_does end_of-Expression at = stuck_does at
    choice_does (more_of-Expression c es) at =
        let a1 = at.is.is in let a2 = a1.rest in let a3 = a2.rest in let a4 = a3.rest in let a5 = a4.rest in let a6 = a5.rest in
        then_does (then_does (expression_does c a1.first.first) (λ x. must_give_does (is_void c) x a1.first.rest))
        (λ x. then_does (unless_does a2.first a5.first.at)
        (λ b. picks_does b es
        (to_does (λ y. jump_to a4.first a6.rest.at) (pick_does true es a3.first))
        (to_does (λ y. moves a6.rest.same) (pick_does false es a6.first))))

    pick_does : {m : _} (b : Bool) (es : Row_of-Expression m) {pc pc' : ℕ} {ops : List Operand} → PickAt here b es pc pc' → Does code d (On k pc ops backs) (picks code.classes call b es) (λ x. On k pc' (x ∷ ops) backs)
    pick_does b end_of-Expression at = stuck_does at
    pick_does true (more_of-Expression e es) at = then_does (expression_does e at.first) (λ x. must_give_does (is_void e) x at.rest)
    pick_does false (more_of-Expression e es) at = pick_does true es at

    all_let_go : {m : _} (es : Row_of-Expression m) {pc pc' : ℕ} {ops : List Operand} → AllLetGo here es pc pc' → Does code d (On k pc ops backs) (lets_go code.classes call es) (λ _. On k pc' ops backs)
    all_let_go end_of-Expression at = pure_does _ (moves at)
    all_let_go (more_of-Expression e es) at =
        then_does (expression_does e at.first.first) (λ x. from_does (let_go_comes (is_void e) x at.first.rest) (all_let_go es at.rest))

  -- an operand, a test that leads on or to a label, and expressions whose values are let go
  pub operand_does : {pc pc' : ℕ} {ops : List Operand} (e : Expression) → OperandAt here e pc pc' → Does code d (On k pc ops backs) (operand_of code.classes call e) (λ x. On k pc' (x ∷ ops) backs)
  operand_does e at = then_does (expression_does e at.first) (λ x. must_give_does (is_void e) x at.rest)

  pub test_does : {pc mid pc' l place : ℕ} {ops : List Operand} (e : Expression) → OperandAt here e pc mid → Unless here l mid pc' → label_at code k l ≡ Some place → Does code d (On k pc ops backs) (test_of code.classes call e) (λ b n w. branch b (On k pc' ops backs n w) (On k place ops backs n w))
  test_does e at un lab = then_does (operand_does e at) (λ x. unless_does un lab)

  pub lets_go_does : (es : List Expression) {pc pc' : ℕ} {ops : List Operand} → LetsGo here es pc pc' → Does code d (On k pc ops backs) (let_go code.classes call es) (λ _. On k pc' ops backs)
  lets_go_does [] at = pure_does _ (moves at)
  lets_go_does (e ∷ es) at =
      then_does (expression_does e at.first.first) (λ x. from_does (let_go_comes (is_void e) x at.first.rest) (lets_go_does es at.rest))
