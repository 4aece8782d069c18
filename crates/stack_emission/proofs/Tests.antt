-- The tests of what has code.
use Rattle.std.proofs.Common.{◌≡◌, ℕ, suc, ◌+◌, ◌<◌, ◌≤◌, ◌&&◌, Bool, true, List, [], ◌∷◌, length, get_or, take, drop, ◌-◌, drop-cons, add-one, refl, sym, ap, ◌∙◌, arith}
use Rattle.std.proofs.Math.ListN.{drop_of_length-le}
use Rattle.natives.specs.declared.native.Native.{Native}
use Rattle.mql_mean.specs.declared.value.Value.{Value}
use Rattle.mql_meaning.specs.declared.operator.Operator.{Operator}
use Rattle.mql_meaning.specs.declared.tree.Callee.{Callee}
use Rattle.mql_meaning.specs.declared.tree.Cleanup.{Cleanup}
use Rattle.mql_meaning.specs.declared.tree.Function.{Function}
use Rattle.mql_meaning.specs.declared.tree.Expression.{Expression, items_hidden-the_row-Expression-0}
use Rattle.mql_meaning.specs.declared.tree.Expression.TheVariants as x
use Rattle.mql_meaning.specs.declared.tree.Statement.{Statement, items_hidden-the_row-Statement-0}
use Rattle.mql_meaning.specs.declared.tree.Statement.TheVariants as y
use Rattle.stack_emission.specs.HasCode.{are_named, are_numbers, is_number, callee_has_code, expression_has_code, row_has_code, have_code, given_has_code, no_cleanup, statement_has_code, statements_have_code, body_has_code, bodies_have_code}
use Rattle.stack_emission.proofs.Rows.{first_row, second_row, listed, counted, goes_on}
use Rattle.stack_emission.proofs.StatementRows.{held_row, failed_row, list_has}

module _ (fs : List Function) (b : Bool) (e : Expression) where
  pub apply_test : (o : Operator) (es ps : List Expression) → e ≡ x.Apply o es → ps ≡ es → b ≡ have_code fs ps → b ≡ expression_has_code fs e
  apply_test o es ps is p h = h ∙ ap (have_code fs) p ∙ sym (listed fs (first_row (x.Apply o es)) es (items_hidden-the_row-Expression-0 es)) ∙ ap (expression_has_code fs) (sym is)

  pub choose_test : (es ps : List Expression) → e ≡ x.Choose es → ps ≡ es → b ≡ have_code fs ps → b ≡ expression_has_code fs e
  choose_test es ps is p h = h ∙ ap (have_code fs) p ∙ sym (listed fs (first_row (x.Choose es)) es (items_hidden-the_row-Expression-0 es)) ∙ ap (expression_has_code fs) (sym is)

  pub native_test : (f : Native) (es ps : List Expression) → e ≡ x.Native f es → ps ≡ es → b ≡ have_code fs ps → b ≡ expression_has_code fs e
  native_test f es ps is p h = h ∙ ap (have_code fs) p ∙ sym (listed fs (first_row (x.Native f es)) es (items_hidden-the_row-Expression-0 es)) ∙ ap (expression_has_code fs) (sym is)

  pub call_test : (f : Callee) (gives : Bool) (es ps : List Expression) (n : ℕ) (a c : Bool) → e ≡ x.Call f gives es → ps ≡ es → n ≡ length es → a ≡ have_code fs ps → c ≡ callee_has_code fs f gives n → b ≡ (a && c) → b ≡ expression_has_code fs e
  call_test f gives es ps n a c is p q h i j =
      let r = first_row (x.Call f gives es) in
      let l = items_hidden-the_row-Expression-0 es in
      j ∙ ap (λ a. a && c) (h ∙ ap (have_code fs) p ∙ sym (listed fs r es l)) ∙ ap (λ c. row_has_code fs r.1 && c) (i ∙ ap (callee_has_code fs f gives) (q ∙ sym (counted r es l))) ∙ ap (expression_has_code fs) (sym is)

  pub after_test : (es us ps qs : List Expression) (a c : Bool) → e ≡ x.After es us → ps ≡ es → qs ≡ us → a ≡ have_code fs ps → c ≡ have_code fs qs → b ≡ (a && c) → b ≡ expression_has_code fs e
  after_test es us ps qs a c is p q h i j =
      let r = first_row (x.After es us) in
      let s = second_row (x.After es us) in
      j ∙ ap (λ a. a && c) (h ∙ ap (have_code fs) p ∙ sym (listed fs r es (items_hidden-the_row-Expression-0 es))) ∙ ap (λ c. row_has_code fs r.1 && c) (i ∙ ap (have_code fs) q ∙ sym (listed fs s us (items_hidden-the_row-Expression-0 us))) ∙ ap (expression_has_code fs) (sym is)

  pub named_test : (texts ts : List (List ℕ)) (labels ls : List Value) (before : List ℕ) (es ps : List Expression) (a c : Bool) → e ≡ x.Named texts labels before es → ps ≡ es → ls ≡ labels → ts ≡ texts → a ≡ have_code fs ps → c ≡ are_named ls ts → b ≡ (a && c) → b ≡ expression_has_code fs e
  named_test texts ts labels ls before es ps a c is p q s h i j =
      let r = first_row (x.Named texts labels before es) in
      j ∙ ap (λ a. a && c) (h ∙ ap (have_code fs) p ∙ sym (listed fs r es (items_hidden-the_row-Expression-0 es))) ∙ ap (λ c. row_has_code fs r.1 && c) (i ∙ ap (λ ls. are_named ls ts) q ∙ ap (are_named labels) s) ∙ ap (expression_has_code fs) (sym is)

module _ (fs : List Function) (b : Bool) (s : Statement) (line : ℕ) where
  pub evaluate_test : (e : Expression) → s ≡ y.Evaluate line e → b ≡ expression_has_code fs e → b ≡ statement_has_code fs s
  evaluate_test e is h = h ∙ ap (statement_has_code fs) (sym is)

  pub return_test : (es ps : List Expression) → s ≡ y.Return line es → ps ≡ es → b ≡ given_has_code fs ps → b ≡ statement_has_code fs s
  return_test es ps is p h = h ∙ ap (given_has_code fs) p ∙ ap (statement_has_code fs) (sym is)

  pub if_test : (e : Expression) (held failed ps qs : List Statement) (a c i j : Bool) → s ≡ y.If line e held failed → ps ≡ held → qs ≡ failed → a ≡ expression_has_code fs e → c ≡ body_has_code fs ps → i ≡ body_has_code fs qs → j ≡ (c && i) → b ≡ (a && j) → b ≡ statement_has_code fs s
  if_test e held failed ps qs a c i j is p q f g h k l =
      let r = held_row (y.If line e held failed) in
      let t = failed_row (y.If line e held failed) in
      l ∙ ap (λ a. a && j) f ∙ ap (λ j. expression_has_code fs e && j) (k ∙ ap (λ c. c && i) (g ∙ ap (body_has_code fs) p ∙ sym (list_has fs r held (items_hidden-the_row-Statement-0 held))) ∙ ap (λ i. statements_have_code fs r.1 && i) (h ∙ ap (body_has_code fs) q ∙ sym (list_has fs t failed (items_hidden-the_row-Statement-0 failed)))) ∙ ap (statement_has_code fs) (sym is)

  pub loop_test : (first : Bool) (e : Expression) (step us : List Expression) (body ps : List Statement) (a c i j : Bool) → s ≡ y.Loop line first e step body → us ≡ step → ps ≡ body → a ≡ expression_has_code fs e → c ≡ have_code fs us → i ≡ body_has_code fs ps → j ≡ (c && i) → b ≡ (a && j) → b ≡ statement_has_code fs s
  loop_test first e step us body ps a c i j is p q f g h k l =
      let r = held_row (y.Loop line first e step body) in
      l ∙ ap (λ a. a && j) f ∙ ap (λ j. expression_has_code fs e && j) (k ∙ ap (λ c. c && i) (g ∙ ap (have_code fs) p) ∙ ap (λ i. have_code fs step && i) (h ∙ ap (body_has_code fs) q ∙ sym (list_has fs r body (items_hidden-the_row-Statement-0 body)))) ∙ ap (statement_has_code fs) (sym is)

  pub switch_test : (e : Expression) (labels ls : List Value) (places : List ℕ) (other : ℕ) (body ps : List Statement) (a c i j : Bool) → s ≡ y.Switch line e labels places other body → ls ≡ labels → ps ≡ body → a ≡ expression_has_code fs e → c ≡ are_numbers ls → i ≡ body_has_code fs ps → j ≡ (c && i) → b ≡ (a && j) → b ≡ statement_has_code fs s
  switch_test e labels ls places other body ps a c i j is p q f g h k l =
      let r = held_row (y.Switch line e labels places other body) in
      l ∙ ap (λ a. a && j) f ∙ ap (λ j. expression_has_code fs e && j) (k ∙ ap (λ c. c && i) (g ∙ ap are_numbers p) ∙ ap (λ i. are_numbers labels && i) (h ∙ ap (body_has_code fs) q ∙ sym (list_has fs r body (items_hidden-the_row-Statement-0 body)))) ∙ ap (statement_has_code fs) (sym is)

  pub block_test : (body ps : List Statement) (cleanups qs : List Cleanup) (a c : Bool) → s ≡ y.Block line body cleanups → ps ≡ body → qs ≡ cleanups → a ≡ body_has_code fs ps → c ≡ no_cleanup qs → b ≡ (a && c) → b ≡ statement_has_code fs s
  block_test body ps cleanups qs a c is p q h i j =
      let r = held_row (y.Block line body cleanups) in
      j ∙ ap (λ a. a && c) (h ∙ ap (body_has_code fs) p ∙ sym (list_has fs r body (items_hidden-the_row-Statement-0 body))) ∙ ap (λ c. statements_have_code fs r.1 && c) (i ∙ ap no_cleanup q) ∙ ap (statement_has_code fs) (sym is)

-- lists, one item after another
module _ (fs : List Function) where
  pub expression_next : (es : List Expression) (i : ℕ) (e d : Expression) (b : Bool) → i < length es → e ≡ get_or es i d → b ≡ expression_has_code fs e → have_code fs (drop i es) ≡ (b && have_code fs (drop (i + 1) es))
  expression_next es i e d b lt is h = ap (have_code fs) (drop-cons es i d lt ∙ ap (λ x. x ∷ drop (suc i) es) (sym is)) ∙ ap (λ b. b && have_code fs (drop (suc i) es)) (sym h) ∙ ap (λ j. b && have_code fs (drop j es)) (sym (add-one i))

  pub expressions_end : (es : List Expression) (i : ℕ) → length es ≤ i → have_code fs (drop i es) ≡ true
  expressions_end es i le = ap (have_code fs) (drop_of_length-le es le)

  pub statement_next : (ss : List Statement) (i : ℕ) (s d : Statement) (b : Bool) → i < length ss → s ≡ get_or ss i d → b ≡ statement_has_code fs s → body_has_code fs (drop i ss) ≡ (b && body_has_code fs (drop (i + 1) ss))
  statement_next ss i s d b lt is h = ap (body_has_code fs) (drop-cons ss i d lt ∙ ap (λ x. x ∷ drop (suc i) ss) (sym is)) ∙ ap (λ b. b && body_has_code fs (drop (suc i) ss)) (sym h) ∙ ap (λ j. b && body_has_code fs (drop j ss)) (sym (add-one i))

  pub statements_end : (ss : List Statement) (i : ℕ) → length ss ≤ i → body_has_code fs (drop i ss) ≡ true
  statements_end ss i le = ap (body_has_code fs) (drop_of_length-le ss le)

  pub body_next : (gs : List Function) (i : ℕ) (g d : Function) (b : Bool) → i < length gs → g ≡ get_or gs i d → b ≡ body_has_code fs g.body → bodies_have_code fs (drop i gs) ≡ (b && bodies_have_code fs (drop (i + 1) gs))
  body_next gs i g d b lt is h = ap (bodies_have_code fs) (drop-cons gs i d lt ∙ ap (λ x. x ∷ drop (suc i) gs) (sym is)) ∙ ap (λ b. b && bodies_have_code fs (drop (suc i) gs)) (sym h) ∙ ap (λ j. b && bodies_have_code fs (drop j gs)) (sym (add-one i))

  pub bodies_end : (gs : List Function) (i : ℕ) → length gs ≤ i → bodies_have_code fs (drop i gs) ≡ true
  bodies_end gs i le = ap (bodies_have_code fs) (drop_of_length-le gs le)

-- numbers
pub number_next : (vs : List Value) (i : ℕ) (v d : Value) (b : Bool) → i < length vs → v ≡ get_or vs i d → b ≡ is_number v → are_numbers (drop i vs) ≡ (b && are_numbers (drop (i + 1) vs))
number_next vs i v d b lt is h = ap are_numbers (drop-cons vs i d lt ∙ ap (λ x. x ∷ drop (suc i) vs) (sym is)) ∙ ap (λ b. b && are_numbers (drop (suc i) vs)) (sym h) ∙ ap (λ j. b && are_numbers (drop j vs)) (sym (add-one i))

pub numbers_end : (vs : List Value) (i : ℕ) → length vs ≤ i → are_numbers (drop i vs) ≡ true
numbers_end vs i le = ap are_numbers (drop_of_length-le vs le)

-- names
pub names_test : (b : Bool) (ls vs : List Value) (ts ss : List (List ℕ)) (v : Value) (s : List ℕ) (a c : Bool) → ls ≡ v ∷ vs → ts ≡ s ∷ ss → a ≡ is_number v → c ≡ are_named vs ss → b ≡ (a && c) → b ≡ are_named ls ts
names_test b ls vs ts ss v s a c p q h i j = j ∙ ap (λ a. a && c) h ∙ ap (λ c. is_number v && c) i ∙ ap (are_named (v ∷ vs)) (sym q) ∙ ap (λ ls. are_named ls ts) (sym p)

pub no_names : (vs : List Value) (ts : List (List ℕ)) → ts ≡ [] → true ≡ are_named vs ts
no_names [] ts e = refl
no_names (v ∷ vs) ts e = ap (are_named (v ∷ vs)) (sym e)

abbrev pub first_text : List (List ℕ) → List ℕ
first_text [] = []
first_text (t ∷ ts) = t

pub rest_of : (ts : List (List ℕ)) → 1 ≤ length ts → ts ≡ first_text ts ∷ take (length ts - 1) (drop 1 ts)
rest_of [] le = absurd (omega (arith, le))
rest_of (t ∷ ts) le = goes_on (t ∷ ts) t t le refl
