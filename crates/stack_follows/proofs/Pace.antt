-- Stretches of code that spend steps: a jump leads behind it, or to a step.
use Rattle.std.proofs.Common.{◌≡◌, ℕ, ◌<◌, ◌≤◌, not, ◌==◌, Bool, true, false, List, [], ◌∷◌, Option, Some, None, refl, sym, ap, ◌∙◌, subst, arith, ⊎_elim}
use Rattle.std.proofs.lemmas.Bool.{cases_lt}
use Rattle.mql_mean.specs.declared.value.Value.{Value}
use Rattle.mql_meaning.specs.declared.tree.Callee.{Callee}
use Rattle.mql_meaning.specs.declared.tree.Callee.TheVariants as callee
use Rattle.mql_meaning.specs.declared.tree.Expression.{Expression, Constant, Apply', Choose', Call', Native', Make', Delete', After', Named', Row_of-Expression, end_of-Expression, more_of-Expression}
use Rattle.mql_meaning.specs.Expressions.{is_void}
use Rattle.stack_code.specs.declared.code.Instruction.{Instruction}
use Rattle.stack_code.specs.declared.code.Instruction.TheVariants as instruction
use Rattle.stack_code.specs.Machine.{operands_of}
use Rattle.stack_code.specs.Paced.{jumps_to}
use Rattle.stack_follows.specs.Spans.{Listing, ◌▷◌, One, Label, Push, StuckIf, LetGo}
use Rattle.stack_follows.specs.Expressions.{is_short, count, Equals, JoinAt, CallAt, NamesAt, ExpressionAt, PartsAt, ChoiceAt, PickAt, AllLetGo, OperandAt, LetsGo}

-- at a place stands one instruction, and a label leads to one place
pub record Exact (here : Listing) : Type 0 where
  pub instruction : (place : ℕ) (i j : Instruction) → here.instruction_at place i → here.instruction_at place j → i ≡ j
  pub label : (l p q : ℕ) → here.label_at l p → here.label_at l q → p ≡ q

module _ (here : Listing) where
  -- a label leads to no place before one
  abbrev pub Leads : ℕ → ℕ → Type 0
  Leads l b = (to : ℕ) → here.label_at l to → b ≤ to

  -- a jump from a place leads behind it, or to a step
  abbrev pub PacesAt : ℕ → Type 0
  PacesAt place = (i : Instruction) (l to : ℕ) → here.instruction_at place i → jumps_to i ≡ Some l → here.label_at l to → to ≤ place → here.instruction_at to instruction.Step

  -- a stretch leads on, and so does each of its jumps
  pub record Pace (a b : ℕ) : Type 0 where
    pub onward : a ≤ b
    pub each : (place : ℕ) → a ≤ place → place < b → PacesAt place

module _ (here : Listing) (exact : Exact here) where
  pub leads_less : (l a b : ℕ) → a ≤ b → Leads here l b → Leads here l a
  leads_less l a b le leads to at = let far = leads to at in omega (arith, le, far)

  pub label_leads : (l a b : ℕ) → Label here l a b → Leads here l b
  label_leads l a b s to at = let same = exact.label l b to s.at at in omega (arith, same)

  pub nothing_paces : (a b : ℕ) → a ≡ b → Pace here a b
  nothing_paces a b e = record { onward = omega (arith, e); each = λ place from to. absurd (omega (arith, e, from, to)) }

  pub label_paces : (l a b : ℕ) → Label here l a b → Pace here a b
  label_paces l a b s = nothing_paces a b s.same

  -- a stretch, and then another
  pub both : (a m b : ℕ) → Pace here a m → Pace here m b → Pace here a b
  both a m b p q = record {
    onward = let le = p.onward in let le' = q.onward in omega (arith, le, le');
    each = λ place from to. ⊎_elim (λ lt. p.each place from lt) (λ le. q.each place le to) (cases_lt place m);
  }

  -- an instruction whose jump paces
  pub one_paces : (i : Instruction) (a b : ℕ) → ((l to : ℕ) → jumps_to i ≡ Some l → here.label_at l to → to ≤ a → here.instruction_at to instruction.Step) → One here i a b → Pace here a b
  one_paces i a b jumps s = record {
    onward = let next = s.next in omega (arith, next);
    each = λ place from to j l end at jump is le.
        let next = s.next in
        let same : place ≡ a = omega (arith, next, from, to) in
        let is_i : j ≡ i = exact.instruction a j i (subst (λ p. here.instruction_at p j) same at) s.at in
        jumps l end (subst (λ j. jumps_to j ≡ Some l) is_i jump) is (subst (λ p. end ≤ p) same le);
  }

  no_jump : (l : ℕ) (A : Type 0) → None ≡ Some l → A
  no_jump l A e = absurd (subst (λ (o : Option ℕ). elim o as (λ _. Type 0) [ None ↦ Unit {0} | Some x ↦ ⊥ ]) e (tt {0}))

  some_label : (k l : ℕ) → Some k ≡ Some l → k ≡ l
  some_label k l e = ap (λ (o : Option ℕ). elim o as (λ _. ℕ) [ None ↦ k | Some x ↦ x ]) e

  -- an instruction that goes on
  pub plain_paces : (i : Instruction) (a b : ℕ) → jumps_to i ≡ None → One here i a b → Pace here a b
  plain_paces i a b none = one_paces i a b (λ l to jump is le. no_jump l _ (sym none ∙ jump))

  -- a jump behind it, and one to a step
  pub ahead_paces : (i : Instruction) (k a b : ℕ) → jumps_to i ≡ Some k → Leads here k b → One here i a b → Pace here a b
  ahead_paces i k a b jumps leads s = one_paces i a b (λ l to jump is le. absurd (let far = leads to (subst (λ l. here.label_at l to) (sym (some_label k l (sym jumps ∙ jump))) is) in let next = s.next in omega (arith, far, next, le))) s

  pub back_paces : (k top a b : ℕ) → here.label_at k top → here.instruction_at top instruction.Step → One here (instruction.Jump k) a b → Pace here a b
  back_paces k top a b is step = one_paces (instruction.Jump k) a b (λ l to jump at le. subst (λ p. here.instruction_at p instruction.Step) (exact.label k top to is (subst (λ l. here.label_at l to) (sym (some_label k l jump)) at)) step)

  pub seq_paces : {A B : ℕ → ℕ → Type 0} (a b : ℕ) → ((a b : ℕ) → A a b → Pace here a b) → ((a b : ℕ) → B a b → Pace here a b) → (A ▷ B) a b → Pace here a b
  seq_paces a b f g s = both a s.mid b (f a s.mid s.first) (g s.mid b s.rest)

  pub push_paces : (v : Value) (a b : ℕ) → Push here v a b → Pace here a b
  push_paces v a b s = plain_paces _ a b refl s.one

  pub stuck_paces : (t : Bool) (a b : ℕ) → StuckIf here t a b → Pace here a b
  stuck_paces true a b s = seq_paces a b (push_paces _) (λ a b. plain_paces _ a b refl) s
  stuck_paces false a b s = nothing_paces a b s

  pub go_paces : (t : Bool) (a b : ℕ) → LetGo here t a b → Pace here a b
  go_paces true a b s = nothing_paces a b s
  go_paces false a b s = plain_paces _ a b refl s

  pub equals_paces : (v : Value) (a b : ℕ) → Equals here v a b → Pace here a b
  equals_paces v a b s = seq_paces a b (push_paces v) (λ a b. plain_paces _ a b refl) s.is

  pub join_paces : (t : Bool) (before : List ℕ) (a b : ℕ) → JoinAt here t before a b → Pace here a b
  join_paces true before a b s = plain_paces _ a b refl s
  join_paces false before a b s = push_paces _ a b s

  pub call_paces : (f : Callee) (gives : Bool) (n a b : ℕ) → CallAt here f gives n a b → Pace here a b
  call_paces (callee.Direct f) gives n a b s = plain_paces _ a b refl s.one
  call_paces (callee.Virtual class signature) gives n a b s = absurd s

  pub names_paces : (before : List ℕ) (out : ℕ) (vs : List Value) (ss : List (List ℕ)) (a b : ℕ) → Leads here out b → NamesAt here before out vs ss a b → Pace here a b
  names_paces before out (v ∷ vs) (s ∷ ss) a b leads t =
      let next = t.label in
      let r0 = t.is in let r1 = r0.rest in let r2 = r1.rest in let r3 = r2.rest in let r4 = r3.rest in let r5 = r4.rest in let r6 = r5.rest in let r7 = r6.rest in
      let others = both r6.mid r7.mid b (label_paces next r6.mid r7.mid r7.first) (names_paces before out vs ss r7.mid b leads r7.rest) in
      let jump = ahead_paces (instruction.Jump out) out r5.mid r6.mid refl (leads_less out r6.mid b others.onward leads) r6.first in
      let found = both r2.mid r3.mid r6.mid (plain_paces _ r2.mid r3.mid refl r3.first) (both r3.mid r4.mid r6.mid (plain_paces _ r3.mid r4.mid refl r4.first) (both r4.mid r5.mid r6.mid (push_paces _ r4.mid r5.mid r5.first) jump)) in
      let same = r7.first.same in
      let le = found.onward in
      let test = ahead_paces (instruction.Unless next) next r1.mid r2.mid refl (leads_less next r2.mid r7.mid (omega (arith, same, le)) (label_leads next r6.mid r7.mid r7.first)) r2.first in
      both a r0.mid b (plain_paces _ a r0.mid refl r0.first) (both r0.mid r1.mid b (equals_paces v r0.mid r1.mid r1.first) (both r1.mid r2.mid b test (both r2.mid r6.mid b found others)))
  names_paces before out [] ss a b leads t = seq_paces a b (λ a b. plain_paces _ a b refl) (join_paces (is_short before) before) t
  names_paces before out (v ∷ vs) [] a b leads t = seq_paces a b (λ a b. plain_paces _ a b refl) (join_paces (is_short before) before) t

  mutual
    pub expression_paces : (e : Expression) (a b : ℕ) → ExpressionAt here e a b → Pace here a b
    expression_paces (Constant v) a b s = push_paces v a b s
    expression_paces (Apply' o p parts) a b s = seq_paces a b (row_paces parts) (λ a b. seq_paces a b (stuck_paces (not (count parts == operands_of o))) (λ a b. plain_paces _ a b refl)) s
    expression_paces (Choose' p parts) a b s = choice_paces parts a b s
    expression_paces (Call' f gives p parts) a b s = seq_paces a b (row_paces parts) (call_paces f gives (count parts)) s
    expression_paces (Native' f p parts) a b s = seq_paces a b (row_paces parts) (λ a b. plain_paces _ a b refl) s
    expression_paces (Make' class c p parts) a b s = absurd s
    expression_paces (Delete' p parts) a b s = absurd s
    expression_paces (After' p before q last) a b s = seq_paces a b (all_go_pace before) (pick_paces true last) s
    expression_paces (Named' texts labels before p parts) a b s =
        let out = s.label in
        let r0 = s.is in let r1 = r0.rest in let r2 = r1.rest in
        let same = r2.rest.same in
        let names = names_paces before out labels texts r1.mid r2.mid (leads_less out r2.mid b (omega (arith, same)) (label_leads out r2.mid b r2.rest)) r2.first in
        both a r0.mid b (push_paces _ a r0.mid r0.first) (both r0.mid r1.mid b (pick_paces true parts r0.mid r1.mid r1.first) (both r1.mid r2.mid b names (label_paces out r2.mid b r2.rest)))

    pub row_paces : {m : _} (es : Row_of-Expression m) (a b : ℕ) → PartsAt here es a b → Pace here a b
    row_paces end_of-Expression a b s = nothing_paces a b s
    row_paces (more_of-Expression e es) a b s = seq_paces a b (λ a b. seq_paces a b (expression_paces e) (stuck_paces (is_void e))) (row_paces es) s

    pub choice_paces : {m : _} (es : Row_of-Expression m) (a b : ℕ) → ChoiceAt here es a b → Pace here a b
    choice_paces end_of-Expression a b s = stuck_paces true a b s
    choice_paces (more_of-Expression c es) a b s =
        let other = s.label in let out = s.is.label in
        let r0 = s.is.is in let r1 = r0.rest in let r2 = r1.rest in let r3 = r2.rest in let r4 = r3.rest in let r5 = r4.rest in
        let last = both r4.mid r5.mid b (pick_paces false es r4.mid r5.mid r5.first) (label_paces out r5.mid b r5.rest) in
        let same = r4.first.same in
        let le = last.onward in
        let jump = ahead_paces (instruction.Jump out) out r2.mid r3.mid refl (leads_less out r3.mid b (omega (arith, same, le)) (label_leads out r5.mid b r5.rest)) r3.first in
        let held = both r1.mid r2.mid r3.mid (pick_paces true es r1.mid r2.mid r2.first) jump in
        let le' = held.onward in
        let test = ahead_paces (instruction.Unless other) other r0.mid r1.mid refl (leads_less other r1.mid r4.mid (omega (arith, same, le')) (label_leads other r3.mid r4.mid r4.first)) r1.first in
        both a r0.mid b (seq_paces a r0.mid (expression_paces c) (stuck_paces (is_void c)) r0.first) (both r0.mid r1.mid b test (both r1.mid r3.mid b held (both r3.mid r4.mid b (label_paces other r3.mid r4.mid r4.first) last)))

    pub pick_paces : {m : _} (t : Bool) (es : Row_of-Expression m) (a b : ℕ) → PickAt here t es a b → Pace here a b
    pick_paces t end_of-Expression a b s = stuck_paces true a b s
    pick_paces true (more_of-Expression e es) a b s = seq_paces a b (expression_paces e) (stuck_paces (is_void e)) s
    pick_paces false (more_of-Expression e es) a b s = pick_paces true es a b s

    pub all_go_pace : {m : _} (es : Row_of-Expression m) (a b : ℕ) → AllLetGo here es a b → Pace here a b
    all_go_pace end_of-Expression a b s = nothing_paces a b s
    all_go_pace (more_of-Expression e es) a b s = seq_paces a b (λ a b. seq_paces a b (expression_paces e) (go_paces (is_void e))) (all_go_pace es) s

  pub operand_paces : (e : Expression) (a b : ℕ) → OperandAt here e a b → Pace here a b
  operand_paces e a b s = seq_paces a b (expression_paces e) (stuck_paces (is_void e)) s

  pub goes_pace : (es : List Expression) (a b : ℕ) → LetsGo here es a b → Pace here a b
  goes_pace [] a b s = nothing_paces a b s
  goes_pace (e ∷ es) a b s = seq_paces a b (λ a b. seq_paces a b (expression_paces e) (go_paces (is_void e))) (goes_pace es) s
