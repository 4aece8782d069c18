-- The code of a statement, by the lists that it holds.
use Rattle.std.proofs.Common.{◌≡◌, ℕ, ◌+◌, ◌<◌, not, ◌&&◌, Bool, true, false, List, [], ◌∷◌, length, map, refl, sym, ap, ◌∙◌, subst, arith}
use Rattle.std.proofs.lemmas.Bool.{false≢true}
use mathlib.Core.Former.{Count}
use Rattle.mql_mean.specs.declared.value.Value.{Value}
use Rattle.mql_meaning.specs.declared.tree.Cleanup.{Cleanup}
use Rattle.mql_meaning.specs.declared.tree.Function.{Function}
use Rattle.mql_meaning.specs.declared.tree.Expression.{Expression}
use Rattle.mql_meaning.specs.declared.tree.Statement.{Statement, Evaluate, Reset, Return, Break, Continue, If', Loop', Switch', Block', Row_of-Statement, end_of-Statement, more_of-Statement, items-the_row-Statement, items_hidden-the_row-Statement-0}
use Rattle.mql_meaning.specs.declared.tree.Statement.TheVariants as y
use Rattle.mql_meaning.specs.Expressions.{is_void}
use Rattle.stack_follows.specs.Spans.{Listing, Label}
use Rattle.stack_follows.specs.Expressions.{LetsGo}
use Rattle.stack_follows.specs.Stands.{Exits, inside, CleanupAt, StatementAt, StatementsAt, CasesAt, LabelsAt, LabelsAtEnd, FirstAt}
use Rattle.stack_emission.specs.HasCode.{are_numbers, expression_has_code, have_code, statement_has_code, statements_have_code, body_has_code}
use Rattle.stack_emission.specs.Draft.{◌then◌, label, jump, stuck_if, let_go, expression, operand, all_let_go}
use Rattle.stack_emission.specs.Statements.{line_at, statement, statements, given, begun, branches, loop, breaking, label_of, cases, all_cases, switched}
use Rattle.stack_emission.proofs.Kept.{Kept, Stays, seq_map, with_map, one_kept, label_kept, stuck_kept, go_kept, expression_kept, operand_kept, then_stays, label_stays, stuck_stays, operand_stays}
use Rattle.stack_emission.proofs.Rows.{and_left, and_right, operand_row}
use Rattle.stack_emission.proofs.SwitchRows.{with_all_map, tests_kept, labels_kept, last_kept, tests_stand, labels_stand, last_stand}

-- expressions whose values are let go
goes_kept : (here there : Listing) → Kept here there → (es : List Expression) (a b : ℕ) → LetsGo here es a b → LetsGo there es a b
goes_kept here there k [] a b s = s
goes_kept here there k (e ∷ es) a b s = seq_map a b (λ a b. seq_map a b (expression_kept here there k e) (go_kept here there k (is_void e))) (goes_kept here there k es) s

first_kept : (here there : Listing) → Kept here there → (gives first : Bool) (inner a b : ℕ) → FirstAt here CleanupAt gives first inner a b → FirstAt there CleanupAt gives first inner a b
first_kept here there k gives true inner a b s = one_kept here there k _ a b s
first_kept here there k gives false inner a b s = s

-- a statement that has code keeps standing
module _ (fs : List Function) (here there : Listing) (k : Kept here there) (gives : Bool) where
  mutual
    pub statement_kept : (s : Statement) (exits : Exits) (a b : ℕ) → statement_has_code fs s ≡ true → StatementAt here CleanupAt gives s exits a b → StatementAt there CleanupAt gives s exits a b
    statement_kept (Evaluate line e) exits a b h t = seq_map a b (one_kept here there k _) (λ a b. seq_map a b (expression_kept here there k e) (go_kept here there k (is_void e))) t
    statement_kept (Reset line from to) exits a b h t = seq_map a b (one_kept here there k _) (one_kept here there k _) t
    statement_kept (Return line []) exits a b h t = seq_map a b (one_kept here there k _) (λ a b. seq_map a b (stuck_kept here there k gives) (one_kept here there k _)) t
    statement_kept (Return line (e ∷ es)) exits a b h t = seq_map a b (one_kept here there k _) (λ a b. seq_map a b (stuck_kept here there k (not gives)) λ a b. seq_map a b (operand_kept here there k e) (one_kept here there k _)) t
    statement_kept (Break line) exits a b h t = seq_map a b (one_kept here there k _) (one_kept here there k _) t
    statement_kept (Continue line) exits a b h t = seq_map a b (one_kept here there k _) (one_kept here there k _) t
    statement_kept (If' line e p held q failed) exits a b h t =
        let r = and_right (expression_has_code fs e) _ h in
        with_map a b (λ other a b. with_map a b λ out a b. seq_map a b (one_kept here there k _) λ a b. seq_map a b (operand_kept here there k e) λ a b. seq_map a b (one_kept here there k _) λ a b. seq_map a b (λ a b t. statements_kept held exits a b (and_left (statements_have_code fs held) _ r) t) λ a b. seq_map a b (one_kept here there k _) λ a b. seq_map a b (label_kept here there k other) λ a b. seq_map a b (λ a b t. statements_kept failed exits a b (and_right (statements_have_code fs held) _ r) t) (label_kept here there k out)) t
    statement_kept (Loop' line first e step p body) exits a b h t =
        let r = and_right (have_code fs step) (statements_have_code fs body) (and_right (expression_has_code fs e) _ h) in
        with_map a b (λ top a b. with_map a b λ inner a b. with_map a b λ next a b. with_map a b λ out a b. seq_map a b (one_kept here there k _) λ a b. seq_map a b (first_kept here there k gives first inner) λ a b. seq_map a b (label_kept here there k top) λ a b. seq_map a b (one_kept here there k _) λ a b. seq_map a b (operand_kept here there k e) λ a b. seq_map a b (one_kept here there k _) λ a b. seq_map a b (label_kept here there k inner) λ a b. seq_map a b (λ a b t. statements_kept body (inside out next exits) a b r t) λ a b. seq_map a b (label_kept here there k next) λ a b. seq_map a b (one_kept here there k _) λ a b. seq_map a b (goes_kept here there k step) λ a b. seq_map a b (one_kept here there k _) (label_kept here there k out)) t
    statement_kept (Switch' line e labels places other p body) exits a b h t =
        let r = and_right (are_numbers labels) (statements_have_code fs body) (and_right (expression_has_code fs e) _ h) in
        with_map a b (λ out a b. with_map a b λ default a b. with_all_map a b λ ls a b. seq_map a b (one_kept here there k _) λ a b. seq_map a b (operand_kept here there k e) λ a b. seq_map a b (tests_kept here there k gives labels places ls default) λ a b. seq_map a b (λ a b t. cases_kept body 0 (other ∷ places) (default ∷ ls) (breaking out exits) a b r t) (label_kept here there k out)) t
    statement_kept (Block' line p body []) exits a b h t = seq_map a b (one_kept here there k _) (λ a b t. statements_kept body exits a b (and_left (statements_have_code fs body) true h) t) t
    statement_kept (Block' line p body (c ∷ cs)) exits a b h t = absurd (false≢true (and_right (statements_have_code fs body) false h))

    pub statements_kept : {m : _} (ss : Row_of-Statement m) (exits : Exits) (a b : ℕ) → statements_have_code fs ss ≡ true → StatementsAt here CleanupAt gives ss exits a b → StatementsAt there CleanupAt gives ss exits a b
    statements_kept end_of-Statement exits a b h t = t
    statements_kept (more_of-Statement s ss) exits a b h t = seq_map a b (λ a b t. statement_kept s exits a b (and_left (statement_has_code fs s) _ h) t) (λ a b t. statements_kept ss exits a b (and_right (statement_has_code fs s) _ h) t) t

    pub cases_kept : {m : _} (ss : Row_of-Statement m) (i : ℕ) (places ls : List ℕ) (exits : Exits) (a b : ℕ) → statements_have_code fs ss ≡ true → CasesAt here CleanupAt gives i places ls ss exits a b → CasesAt there CleanupAt gives i places ls ss exits a b
    cases_kept end_of-Statement i places ls exits a b h t = last_kept here there k gives i places ls a b t
    cases_kept (more_of-Statement s ss) i places ls exits a b h t = seq_map a b (labels_kept here there k gives i places ls) (λ a b. seq_map a b (λ a b t. statement_kept s exits a b (and_left (statement_has_code fs s) _ h) t) (λ a b t. cases_kept ss (i + 1) places ls exits a b (and_right (statement_has_code fs s) _ h) t)) t

pub statement_stays : (gives : Bool) (s : Statement) (exits : Exits) → Stays (statement gives s exits)
statement_stays gives s exits fs here there k a b t h = statement_kept fs here there k gives s exits a b h (t h)

pub statements_stay : (gives : Bool) (ss : List Statement) (exits : Exits) → Stays (statements gives ss exits)
statements_stay gives [] exits fs here there k a b t = t
statements_stay gives (s ∷ ss) exits fs here there k a b t = then_stays (statement gives s exits) (statements gives ss exits) (statement_stays gives s exits) (statements_stay gives ss exits) fs here there k a b t

pub cases_stay : (gives : Bool) (first : ℕ) (ss : List Statement) (exits : Exits) → Stays (cases gives first ss exits)
cases_stay gives first [] exits fs here there k a b t = t
cases_stay gives first (s ∷ ss) exits fs here there k a b t = seq_map a b (then_stays (label first) (statement gives s exits) (label_stays first) (statement_stays gives s exits) fs here there k) (cases_stay gives (first + 1) ss exits fs here there k) t

pub all_cases_stay : (gives : Bool) (first : ℕ) (ss : List Statement) (exits : Exits) → Stays (all_cases gives first ss exits)
all_cases_stay gives first ss exits = then_stays (cases gives first ss exits) (label (first + length ss)) (cases_stay gives first ss exits) (label_stays (first + length ss))

pub given_stays : (gives : Bool) (es : List Expression) → Stays (given gives es)
given_stays gives [] = stuck_stays gives
given_stays gives (e ∷ es) = then_stays (stuck_if (not gives)) (operand e) (stuck_stays (not gives)) (operand_stays e)

pub begun_stays : (first : Bool) (inner : ℕ) → Stays (begun first inner)
begun_stays true inner fs here there k a b t = one_kept here there k _ a b t
begun_stays false inner fs here there k a b t = t

-- the lists of a statement
abbrev pub held_row : Statement → (n : Count) × Row_of-Statement n
held_row (If' _ _ _ row _ _) = (_, row)
held_row (Loop' _ _ _ _ _ row) = (_, row)
held_row (Switch' _ _ _ _ _ _ row) = (_, row)
held_row (Block' _ _ row _) = (_, row)
held_row _ = (_, end_of-Statement)

abbrev pub failed_row : Statement → (n : Count) × Row_of-Statement n
failed_row (If' _ _ _ _ _ row) = (_, row)
failed_row _ = (_, end_of-Statement)

module _ (fs : List Function) (here : Listing) (gives : Bool) where
  row_stands : (n : _) (row : Row_of-Statement n) (exits : Exits) (a b : ℕ) → statements_have_code fs row ≡ true → statements gives (items-the_row-Statement n row) exits fs here a b → StatementsAt here CleanupAt gives row exits a b
  row_stands n end_of-Statement exits a b h t = t
  row_stands n (more_of-Statement s ss) exits a b h t = seq_map a b (λ a b t. t (and_left (statement_has_code fs s) _ h)) (λ a b t. row_stands _ ss exits a b (and_right (statement_has_code fs s) _ h) t) t

  list_stands : (r : (n : Count) × Row_of-Statement n) (ss : List Statement) (exits : Exits) (a b : ℕ) → items-the_row-Statement r.0 r.1 ≡ ss → statements_have_code fs r.1 ≡ true → statements gives ss exits fs here a b → StatementsAt here CleanupAt gives r.1 exits a b
  list_stands r ss exits a b e h t = row_stands r.0 r.1 exits a b h (subst (λ ss. statements gives ss exits fs here a b) (sym e) t)

  goes_stand : (es : List Expression) (a b : ℕ) → have_code fs es ≡ true → all_let_go es fs here a b → LetsGo here es a b
  goes_stand [] a b h s = s
  goes_stand (e ∷ es) a b h s = seq_map a b (λ a b s. seq_map a b (λ a b s. s (and_left (expression_has_code fs e) (have_code fs es) h)) (λ a b s. s) s) (λ a b s. goes_stand es a b (and_right (expression_has_code fs e) (have_code fs es) h) s) s

  begun_stands : (first : Bool) (inner a b : ℕ) → begun first inner fs here a b → FirstAt here CleanupAt gives first inner a b
  begun_stands true inner a b s = s
  begun_stands false inner a b s = s

  pub evaluate_stands : (line : ℕ) (e : Expression) (exits : Exits) (a b : ℕ) → (line_at line then expression e then let_go (is_void e)) fs here a b → statement gives (y.Evaluate line e) exits fs here a b
  evaluate_stands line e exits a b s h = seq_map a b (λ a b s. s) (λ a b s. seq_map a b (λ a b s. s h) (λ a b s. s) s) s

  pub return_stands : (line : ℕ) (es : List Expression) (exits : Exits) (a b : ℕ) → (line_at line then given gives es then jump exits.to_return) fs here a b → statement gives (y.Return line es) exits fs here a b
  return_stands line [] exits a b s h = s
  return_stands line (e ∷ es) exits a b s h =
      let g = s.rest.first in
      record { mid = s.mid; first = s.first; rest = record { mid = g.mid; first = g.first; rest = record { mid = s.rest.mid; first = operand_row fs here e g.mid s.rest.mid h g.rest; rest = s.rest.rest } } }

  pub if_stands : (line : ℕ) (e : Expression) (held failed : List Statement) (exits : Exits) (a b : ℕ) → branches line e (statements gives held exits) (statements gives failed exits) fs here a b → statement gives (y.If line e held failed) exits fs here a b
  if_stands line e held failed exits a b s h =
      let r = held_row (y.If line e held failed) in
      let q = failed_row (y.If line e held failed) in
      let g = and_right (expression_has_code fs e) _ h in
      with_map a b (λ other a b. with_map a b λ out a b s. record { mid = s.first.mid; first = s.first.first; rest = record { mid = s.mid; first = operand_row fs here e s.first.mid s.mid (and_left (expression_has_code fs e) _ h) s.first.rest; rest = seq_map s.mid b (λ a b s. s) (λ a b. seq_map a b (λ a b t. list_stands r held exits a b (items_hidden-the_row-Statement-0 held) (and_left (statements_have_code fs r.1) _ g) t) λ a b. seq_map a b (λ a b s. s) λ a b. seq_map a b (λ a b s. s) λ a b. seq_map a b (λ a b t. list_stands q failed exits a b (items_hidden-the_row-Statement-0 failed) (and_right (statements_have_code fs r.1) _ g) t) (λ a b s. s)) s.rest } }) s

  pub loop_stands : (line : ℕ) (first : Bool) (e : Expression) (step : List Expression) (body : List Statement) (exits : Exits) (a b : ℕ) → loop line first e step (statements gives body) exits fs here a b → statement gives (y.Loop line first e step body) exits fs here a b
  loop_stands line first e step body exits a b s h =
      let r = held_row (y.Loop line first e step body) in
      let g = and_right (expression_has_code fs e) _ h in
      with_map a b (λ top a b. with_map a b λ inner a b. with_map a b λ next a b. with_map a b λ out a b. seq_map a b (λ a b s. s) λ a b. seq_map a b (begun_stands first inner) λ a b. seq_map a b (λ a b s. s) λ a b. seq_map a b (λ a b s. s) λ a b. seq_map a b (λ a b s. operand_row fs here e a b (and_left (expression_has_code fs e) _ h) s) λ a b. seq_map a b (λ a b s. s) λ a b. seq_map a b (λ a b s. s) λ a b. seq_map a b (λ a b t. list_stands r body (inside out next exits) a b (items_hidden-the_row-Statement-0 body) (and_right (have_code fs step) _ g) t) λ a b. seq_map a b (λ a b s. s) λ a b. seq_map a b (λ a b s. s) λ a b. seq_map a b (λ a b s. goes_stand step a b (and_left (have_code fs step) _ g) s) λ a b. seq_map a b (λ a b s. s) (λ a b s. s)) s

  pub block_stands : (line : ℕ) (body : List Statement) (cleanups : List Cleanup) (exits : Exits) (a b : ℕ) → (line_at line then statements gives body exits) fs here a b → statement gives (y.Block line body cleanups) exits fs here a b
  block_stands line body [] exits a b s h =
      let r = held_row (y.Block line body []) in
      seq_map a b (λ a b s. s) (λ a b t. list_stands r body exits a b (items_hidden-the_row-Statement-0 body) (and_left (statements_have_code fs r.1) true h) t) s
  block_stands line body (c ∷ cs) exits a b s h = absurd (false≢true (and_right _ false h))

  cases_row : (n : _) (row : Row_of-Statement n) (first end i f : ℕ) (places : List ℕ) (exits : Exits) (a m b : ℕ) → f ≡ first + i → i + length (items-the_row-Statement n row) ≡ end → statements_have_code fs row ≡ true → cases gives f (items-the_row-Statement n row) exits fs here a m → Label here (first + end) m b → CasesAt here CleanupAt gives i places (map (label_of first end) places) row exits a b
  cases_row n end_of-Statement first end i f places exits a m b e l h t s =
      let last : end ≡ i = omega (arith, l) in
      let at : Label here (first + end) b b = record { at = s.at; same = refl } in
      subst (λ p. LabelsAtEnd here CleanupAt gives i places (map (label_of first end) places) p b) (sym (t ∙ s.same))
      (subst (λ j. LabelsAtEnd here CleanupAt gives j places (map (label_of first end) places) b b) last (last_stand fs here gives first end places b at))
  cases_row n (more_of-Statement u us) first end i f places exits a m b e l h t s =
      let q = t.first.mid in
      let lt : i < end = omega (arith, l) in
      let at : Label here (first + i) q q = subst (λ j. Label here j q q) e (record { at = t.first.first.at; same = refl }) in
      let on : i + 1 + length (items-the_row-Statement _ us) ≡ end = omega (arith, l) in
      record {
        mid = q;
        first = subst (λ p. LabelsAt here CleanupAt gives i places (map (label_of first end) places) p q) (sym t.first.first.same) (labels_stand fs here gives first end i places q lt at);
        rest = record {
          mid = t.mid;
          first = t.first.rest (and_left (statement_has_code fs u) _ h);
          rest = cases_row _ us first end (i + 1) (f + 1) places exits t.mid m b (omega (arith, e)) on (and_right (statement_has_code fs u) _ h) t.rest s;
        };
      }

  cases_list : (r : (n : Count) × Row_of-Statement n) (ss : List Statement) (first : ℕ) (places : List ℕ) (exits : Exits) (a b : ℕ) → items-the_row-Statement r.0 r.1 ≡ ss → statements_have_code fs r.1 ≡ true → all_cases gives first ss exits fs here a b → CasesAt here CleanupAt gives 0 places (map (label_of first (length ss)) places) r.1 exits a b
  cases_list r ss first places exits a b e h t =
      let long = ap length e in
      let all : 0 + length (items-the_row-Statement r.0 r.1) ≡ length ss = omega (arith, long) in
      cases_row r.0 r.1 first (length ss) 0 first places exits a t.mid b (omega arith) all h (subst (λ ss. cases gives first ss exits fs here a t.mid) (sym e) t.first) t.rest

  pub switch_stands : (line : ℕ) (e : Expression) (labels : List Value) (places : List ℕ) (other : ℕ) (body : List Statement) (exits : Exits) (a b : ℕ) → switched line e labels places other gives body exits fs here a b → statement gives (y.Switch line e labels places other body) exits fs here a b
  switch_stands line e labels places other body exits a b s h =
      let r = held_row (y.Switch line e labels places other body) in
      let g = and_right (expression_has_code fs e) _ h in
      let first = s.is.label in
      let to = label_of first (length body) in
      record {
        label = s.label;
        is = record {
          label = to other;
          is = record {
            labels = map to places;
            is = seq_map a b (λ a b s. s) (λ a b. seq_map a b (λ a b s. operand_row fs here e a b (and_left (expression_has_code fs e) _ h) s) λ a b. seq_map a b (λ a b s. tests_stand fs here gives to labels places (to other) a b (and_left (are_numbers labels) _ g) s) λ a b. seq_map a b (λ a b t. cases_list r body first (other ∷ places) (breaking s.label exits) a b (items_hidden-the_row-Statement-0 body) (and_right (are_numbers labels) _ g) t) (λ a b s. s)) s.is.is;
          };
        };
      }

-- which rows have code, by their lists
statements_listed : (fs : List Function) (n : _) (row : Row_of-Statement n) → statements_have_code fs row ≡ body_has_code fs (items-the_row-Statement n row)
statements_listed fs n end_of-Statement = refl
statements_listed fs n (more_of-Statement s ss) = ap (λ b. statement_has_code fs s && b) (statements_listed fs _ ss)

pub list_has : (fs : List Function) (r : (n : Count) × Row_of-Statement n) (ss : List Statement) → items-the_row-Statement r.0 r.1 ≡ ss → statements_have_code fs r.1 ≡ body_has_code fs ss
list_has fs r ss e = statements_listed fs r.0 r.1 ∙ ap (body_has_code fs) e
