-- The code of an expression, by the lists that it holds.
use Rattle.std.proofs.Common.{◌≡◌, ℕ, suc, ◌==◌, not, ◌&&◌, ◌≤◌, Bool, true, false, List, [], ◌∷◌, length, get_or, take, drop, ◌-◌, refl, sym, ap, ◌∙◌, subst, arith}
use Rattle.std.proofs.lemmas.Bool.{false≢true}
use mathlib.Core.Former.{Count}
use Rattle.natives.specs.declared.native.Native.{Native}
use Rattle.mql_mean.specs.declared.value.Value.{Value}
use Rattle.mql_meaning.specs.declared.operator.Operator.{Operator}
use Rattle.mql_meaning.specs.declared.tree.Callee.{Callee}
use Rattle.mql_meaning.specs.declared.tree.Function.{Function}
use Rattle.mql_meaning.specs.declared.tree.Expression.{Expression, Apply', Choose', Call', Native', After', Named', Row_of-Expression, end_of-Expression, more_of-Expression, items-the_row-Expression, items_hidden-the_row-Expression-0}
use Rattle.mql_meaning.specs.declared.tree.Expression.TheVariants as x
use Rattle.stack_code.specs.declared.code.Effect.TheVariants as effect
use Rattle.stack_code.specs.declared.code.Instruction.TheVariants as instruction
use Rattle.stack_code.specs.Machine.{operands_of}
use Rattle.stack_follows.specs.Spans.{Listing, ◌▷◌, One, Plain, StuckIf}
use Rattle.stack_follows.specs.Expressions.{count, NamesAt, OperandAt, PartsAt, ChoiceAt, PickAt, AllLetGo}
use Rattle.stack_emission.specs.HasCode.{are_named, is_number, expression_has_code, row_has_code, have_code}
use Rattle.stack_emission.specs.Draft.{◌then◌, one, plain, stuck_if, expression, operand, operands, all_let_go, first, second, choice, call, names, named}
use Rattle.stack_emission.proofs.Kept.{seq_map, with_map}

pub and_left : (a b : Bool) → (a && b) ≡ true → a ≡ true
and_left true b e = refl
and_left false b e = e

pub and_right : (a b : Bool) → (a && b) ≡ true → b ≡ true
and_right true b e = e
and_right false b e = absurd (false≢true e)

-- the first list of an expression, and the second
abbrev pub first_row : Expression → (n : Count) × Row_of-Expression n
first_row (Apply' _ _ row) = (_, row)
first_row (Choose' _ row) = (_, row)
first_row (Call' _ _ _ row) = (_, row)
first_row (Native' _ _ row) = (_, row)
first_row (After' _ row _ _) = (_, row)
first_row (Named' _ _ _ _ row) = (_, row)
first_row _ = (_, end_of-Expression)

abbrev pub second_row : Expression → (n : Count) × Row_of-Expression n
second_row (After' _ _ _ row) = (_, row)
second_row _ = (_, end_of-Expression)

row_counts : (n : _) (row : Row_of-Expression n) → count row ≡ length (items-the_row-Expression n row)
row_counts n end_of-Expression = refl
row_counts n (more_of-Expression e es) = ap suc (row_counts _ es)

row_has : (fs : List Function) (n : _) (row : Row_of-Expression n) → row_has_code fs row ≡ have_code fs (items-the_row-Expression n row)
row_has fs n end_of-Expression = refl
row_has fs n (more_of-Expression e es) = ap (λ b. expression_has_code fs e && b) (row_has fs _ es)

module _ (fs : List Function) (here : Listing) where
  pub operand_row : (e : Expression) (a b : ℕ) → expression_has_code fs e ≡ true → operand e fs here a b → OperandAt here e a b
  operand_row e a b h s = seq_map a b (λ a b s. s h) (λ a b s. s) s

  parts_row : (n : _) (row : Row_of-Expression n) (a b : ℕ) → row_has_code fs row ≡ true → operands (items-the_row-Expression n row) fs here a b → PartsAt here row a b
  parts_row n end_of-Expression a b h s = s
  parts_row n (more_of-Expression e es) a b h s = seq_map a b (λ a b s. operand_row e a b (and_left (expression_has_code fs e) (row_has_code fs es) h) s) (λ a b s. parts_row _ es a b (and_right (expression_has_code fs e) (row_has_code fs es) h) s) s

  go_row : (n : _) (row : Row_of-Expression n) (a b : ℕ) → row_has_code fs row ≡ true → all_let_go (items-the_row-Expression n row) fs here a b → AllLetGo here row a b
  go_row n end_of-Expression a b h s = s
  go_row n (more_of-Expression e es) a b h s = seq_map a b (λ a b s. seq_map a b (λ a b s. s (and_left (expression_has_code fs e) (row_has_code fs es) h)) (λ a b s. s) s) (λ a b s. go_row _ es a b (and_right (expression_has_code fs e) (row_has_code fs es) h) s) s

  pick_first : (n : _) (row : Row_of-Expression n) (a b : ℕ) → row_has_code fs row ≡ true → first (items-the_row-Expression n row) fs here a b → PickAt here true row a b
  pick_first n end_of-Expression a b h s = s
  pick_first n (more_of-Expression e es) a b h s = operand_row e a b (and_left (expression_has_code fs e) (row_has_code fs es) h) s

  pick_second : (n : _) (row : Row_of-Expression n) (a b : ℕ) → row_has_code fs row ≡ true → second (items-the_row-Expression n row) fs here a b → PickAt here false row a b
  pick_second n end_of-Expression a b h s = s
  pick_second n (more_of-Expression e es) a b h s = pick_first _ es a b (and_right (expression_has_code fs e) (row_has_code fs es) h) s

  choice_row : (n : _) (row : Row_of-Expression n) (a b : ℕ) → row_has_code fs row ≡ true → choice (items-the_row-Expression n row) fs here a b → ChoiceAt here row a b
  choice_row n end_of-Expression a b h s = s
  choice_row n (more_of-Expression c es) a b h s =
      let e = and_left (expression_has_code fs c) (row_has_code fs es) h in
      let r = and_right (expression_has_code fs c) (row_has_code fs es) h in
      with_map a b (λ other a b. with_map a b λ out a b. seq_map a b (λ a b s. operand_row c a b e s) λ a b. seq_map a b (λ a b s. s) λ a b. seq_map a b (λ a b s. pick_first _ es a b r s) λ a b. seq_map a b (λ a b s. s) λ a b. seq_map a b (λ a b s. s) λ a b. seq_map a b (λ a b s. pick_second _ es a b r s) (λ a b s. s)) s

  names_row : (before : List ℕ) (out : ℕ) (vs : List Value) (ss : List (List ℕ)) (a b : ℕ) → are_named vs ss ≡ true → names before out vs ss fs here a b → NamesAt here before out vs ss a b
  names_row before out (v ∷ vs) (s ∷ ss) a b h t =
      with_map a b (λ next a b. seq_map a b (λ a b s. s) λ a b. seq_map a b (λ a b s. s (and_left (is_number v) (are_named vs ss) h)) λ a b. seq_map a b (λ a b s. s) λ a b. seq_map a b (λ a b s. s) λ a b. seq_map a b (λ a b s. s) λ a b. seq_map a b (λ a b s. s) λ a b. seq_map a b (λ a b s. s) λ a b. seq_map a b (λ a b s. s) (λ a b s. names_row before out vs ss a b (and_right (is_number v) (are_named vs ss) h) s)) t
  names_row before out [] ss a b h t = t
  names_row before out (v ∷ vs) [] a b h t = t

  -- expressions, by the lists that they hold
  pub apply_stands : (o : Operator) (es : List Expression) (a b : ℕ) → (operands es then stuck_if (not (length es == operands_of o)) then plain (effect.Apply o)) fs here a b → expression (x.Apply o es) fs here a b
  apply_stands o es a b s h =
      let r = first_row (x.Apply o es) in
      let e = items_hidden-the_row-Expression-0 es in
      let c : count r.1 ≡ length es = row_counts r.0 r.1 ∙ ap length e in
      subst (λ n. (PartsAt here r.1 ▷ StuckIf here (not (n == operands_of o)) ▷ Plain here (effect.Apply o)) a b) (sym c) (seq_map a b (λ a b t. parts_row r.0 r.1 a b h (subst (λ es. operands es fs here a b) (sym e) t)) (λ a b t. t) s)

  pub choose_stands : (es : List Expression) (a b : ℕ) → choice es fs here a b → expression (x.Choose es) fs here a b
  choose_stands es a b s h =
      let r = first_row (x.Choose es) in
      choice_row r.0 r.1 a b h (subst (λ es. choice es fs here a b) (sym (items_hidden-the_row-Expression-0 es)) s)

  pub call_stands : (f : Callee) (gives : Bool) (es : List Expression) (a b : ℕ) → (operands es then call f gives (length es)) fs here a b → expression (x.Call f gives es) fs here a b
  call_stands f gives es a b s h =
      let r = first_row (x.Call f gives es) in
      let e = items_hidden-the_row-Expression-0 es in
      let c : count r.1 ≡ length es = row_counts r.0 r.1 ∙ ap length e in
      seq_map a b (λ a b t. parts_row r.0 r.1 a b (and_left _ _ h) (subst (λ es. operands es fs here a b) (sym e) t)) (λ a b t. subst (λ n. call f gives n fs here a b) (sym c) t (and_right (row_has_code fs r.1) _ h)) s

  pub native_stands : (f : Native) (es : List Expression) (a b : ℕ) → (operands es then one (instruction.Native f (length es))) fs here a b → expression (x.Native f es) fs here a b
  native_stands f es a b s h =
      let r = first_row (x.Native f es) in
      let e = items_hidden-the_row-Expression-0 es in
      let c : count r.1 ≡ length es = row_counts r.0 r.1 ∙ ap length e in
      subst (λ n. (PartsAt here r.1 ▷ One here (instruction.Native f n)) a b) (sym c) (seq_map a b (λ a b t. parts_row r.0 r.1 a b h (subst (λ es. operands es fs here a b) (sym e) t)) (λ a b t. t) s)

  pub after_stands : (es us : List Expression) (a b : ℕ) → (all_let_go es then first us) fs here a b → expression (x.After es us) fs here a b
  after_stands es us a b s h =
      let r = first_row (x.After es us) in
      let q = second_row (x.After es us) in
      seq_map a b (λ a b t. go_row r.0 r.1 a b (and_left _ _ h) (subst (λ es. all_let_go es fs here a b) (sym (items_hidden-the_row-Expression-0 es)) t)) (λ a b t. pick_first q.0 q.1 a b (and_right (row_has_code fs r.1) _ h) (subst (λ es. first es fs here a b) (sym (items_hidden-the_row-Expression-0 us)) t)) s

  pub named_stands : (texts : List (List ℕ)) (labels : List Value) (before : List ℕ) (es : List Expression) (a b : ℕ) → named texts labels before es fs here a b → expression (x.Named texts labels before es) fs here a b
  named_stands texts labels before es a b s h =
      let r = first_row (x.Named texts labels before es) in
      with_map a b (λ out a b. seq_map a b (λ a b t. t) λ a b. seq_map a b (λ a b t. pick_first r.0 r.1 a b (and_left (row_has_code fs r.1) _ h) (subst (λ es. first es fs here a b) (sym (items_hidden-the_row-Expression-0 es)) t)) (λ a b. seq_map a b (λ a b t. names_row before out labels texts a b (and_right _ (are_named labels texts) h) t) (λ a b t. t))) s

  -- an expression without code has any
  pub make_stands : (class constructor : ℕ) (es : List Expression) (a b : ℕ) → stuck_if true fs here a b → expression (x.Make class constructor es) fs here a b
  make_stands class constructor es a b s h = absurd (false≢true h)

  pub delete_stands : (es : List Expression) (a b : ℕ) → stuck_if true fs here a b → expression (x.Delete es) fs here a b
  delete_stands es a b s h = absurd (false≢true h)

-- a list with nothing in it, and one that begins with an item
pub is_empty : {A : Type 0} (xs : List A) → length xs ≤ 0 → xs ≡ []
is_empty [] le = refl
is_empty (x ∷ xs) le = absurd (omega (arith, le))

pub begins : {A : Type 0} (xs : List A) (x d : A) → 1 ≤ length xs → x ≡ get_or xs 0 d → xs ≡ x ∷ drop 1 xs
begins [] x d le e = absurd (omega (arith, le))
begins (y ∷ ys) x d le e = ap (λ y. y ∷ ys) (sym e)

take_length : {A : Type 0} (xs : List A) → take (length xs) xs ≡ xs
take_length [] = refl
take_length (x ∷ xs) = ap (λ ys. x ∷ ys) (take_length xs)

take_all : {A : Type 0} (xs : List A) (n : ℕ) → n ≡ length xs → take n xs ≡ xs
take_all xs n e = ap (λ n. take n xs) e ∙ take_length xs

pub goes_on : {A : Type 0} (xs : List A) (x d : A) → 1 ≤ length xs → x ≡ get_or xs 0 d → xs ≡ x ∷ take (length xs - 1) (drop 1 xs)
goes_on [] x d le e = absurd (omega (arith, le))
goes_on (y ∷ ys) x d le e = ap (λ y. y ∷ ys) (sym e) ∙ ap (λ ys. x ∷ ys) (sym (take_all ys (suc (length ys) - 1) (omega arith)))

pub listed : (fs : List Function) (r : (n : Count) × Row_of-Expression n) (es : List Expression) → items-the_row-Expression r.0 r.1 ≡ es → row_has_code fs r.1 ≡ have_code fs es
listed fs r es e = row_has fs r.0 r.1 ∙ ap (have_code fs) e

pub counted : (r : (n : Count) × Row_of-Expression n) (es : List Expression) → items-the_row-Expression r.0 r.1 ≡ es → count r.1 ≡ length es
counted r es e = row_counts r.0 r.1 ∙ ap length e
