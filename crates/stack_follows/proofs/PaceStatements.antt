-- The code of statements and of functions spends steps.
use Rattle.std.proofs.Common.{◌≡◌, ℕ, ◌+◌, ◌≤◌, ◌==◌, not, Bool, true, false, List, [], ◌∷◌, refl, ◌∙◌, subst, arith, ⊎_elim}
use Rattle.std.specs.Prelude.{nat_le}
use Rattle.std.proofs.lemmas.Bool.{cases_lt, eq-eqb, le-leb}
use Rattle.mql_mean.specs.declared.value.Value.{Value}
use Rattle.mql_meaning.specs.declared.tree.Statement.{Statement, Evaluate, Reset, Return, Break, Continue, If', Loop', Switch', Block', Row_of-Statement, end_of-Statement, more_of-Statement}
use Rattle.mql_meaning.specs.Expressions.{is_void}
use Rattle.stack_code.specs.declared.code.Effect.TheVariants as effect
use Rattle.stack_code.specs.declared.code.Instruction.TheVariants as instruction
use Rattle.stack_follows.specs.Spans.{Listing, ◌▷◌, Plain, Jump}
use Rattle.stack_follows.specs.Stands.{Exits, inside, CleanupAt, FirstAt, TestsAt, LabelIf, LabelsAt, LabelsAtEnd, StatementAt, StatementsAt, CasesAt, BodyAt}
use Rattle.stack_follows.proofs.Pace.{Exact, Leads, Pace, leads_less, label_leads, label_paces, nothing_paces, both, plain_paces, ahead_paces, back_paces, seq_paces, stuck_paces, go_paces, equals_paces, expression_paces, operand_paces, goes_pace}

module _ (here : Listing) (exact : Exact here) (gives : Bool) where
  -- the exits of a stretch lead to no place before its end
  pub record Away (exits : Exits) (b : ℕ) : Type 0 where
    pub breaks : Leads here exits.to_break b
    pub continues : Leads here exits.to_continue b
    pub returns : Leads here exits.to_return b

  away_less : (exits : Exits) (a b : ℕ) → a ≤ b → Away exits b → Away exits a
  away_less exits a b le w = record {
    breaks = leads_less here exact exits.to_break a b le w.breaks;
    continues = leads_less here exact exits.to_continue a b le w.continues;
    returns = leads_less here exact exits.to_return a b le w.returns;
  }

  line_paces : (line a b : ℕ) → Plain here (effect.Line line) a b → Pace here a b
  line_paces line a b = plain_paces here exact _ a b refl

  first_paces : (first : Bool) (inner a b : ℕ) → Leads here inner b → FirstAt here CleanupAt gives first inner a b → Pace here a b
  first_paces true inner a b leads s = ahead_paces here exact (instruction.Jump inner) inner a b refl leads s
  first_paces false inner a b leads s = nothing_paces here exact a b s

  -- labels of places from a number on lead to no place before one
  abbrev Sets : ℕ → List ℕ → List ℕ → ℕ → Type 0
  Sets i (place ∷ places) (l ∷ ls) a = (i ≤ place → Leads here l a) × Sets i places ls a
  Sets i _ _ a = Unit {0}

  sets_less : (i : ℕ) (places ls : List ℕ) (a b : ℕ) → a ≤ b → Sets i places ls b → Sets i places ls a
  sets_less i (place ∷ places) (l ∷ ls) a b le s = ((λ from. leads_less here exact l a b le (s.0 from)), sets_less i places ls a b le s.1)
  sets_less i (place ∷ places) [] a b le s = tt
  sets_less i [] ls a b le s = tt

  if_same : (t : Bool) (l a b : ℕ) → LabelIf here CleanupAt gives t l a b → a ≡ b
  if_same true l a b s = s.same
  if_same false l a b s = s

  if_leads : (t : Bool) (l a b : ℕ) → t ≡ true → LabelIf here CleanupAt gives t l a b → Leads here l b
  if_leads true l a b e s = label_leads here exact l a b s
  if_leads false l a b e s = absurd (subst (λ t. elim t as (λ _. Type 0) [ true ↦ ⊥ | false ↦ Unit {0} ]) e (tt {0}))

  labels_same : (i : ℕ) (places ls : List ℕ) (a b : ℕ) → LabelsAt here CleanupAt gives i places ls a b → a ≡ b
  labels_same i (place ∷ places) (l ∷ ls) a b s = if_same (place == i) l a s.mid s.first ∙ labels_same i places ls s.mid b s.rest
  labels_same i (place ∷ places) [] a b s = s
  labels_same i [] ls a b s = s

  last_same : (i : ℕ) (places ls : List ℕ) (a b : ℕ) → LabelsAtEnd here CleanupAt gives i places ls a b → a ≡ b
  last_same i (place ∷ places) (l ∷ ls) a b s = if_same (nat_le i place) l a s.mid s.first ∙ last_same i places ls s.mid b s.rest
  last_same i (place ∷ places) [] a b s = s
  last_same i [] ls a b s = s

  -- the label of a place that comes later leads on, and so does that of this place
  here_leads : (i place l a m c : ℕ) → a ≤ m → a ≤ c → LabelIf here CleanupAt gives (place == i) l a m → (i + 1 ≤ place → Leads here l c) → i ≤ place → Leads here l a
  here_leads i place l a m c le far s later from =
      ⊎_elim
      (λ lt. leads_less here exact l a c far (later (omega (arith, lt))))
      (λ ge. leads_less here exact l a m le (if_leads (place == i) l a m (eq-eqb place i (omega (arith, ge, from))) s))
      (cases_lt i place)

  labels_set : (i : ℕ) (places ls : List ℕ) (a b c : ℕ) → b ≤ c → LabelsAt here CleanupAt gives i places ls a b → Sets (i + 1) places ls c → Sets i places ls a
  labels_set i (place ∷ places) (l ∷ ls) a b c le s t =
      let one = if_same (place == i) l a s.mid s.first in
      let more = labels_same i places ls s.mid b s.rest in
      (here_leads i place l a s.mid c (omega (arith, one)) (omega (arith, one, more, le)) s.first t.0, sets_less i places ls a s.mid (omega (arith, one)) (labels_set i places ls s.mid b c le s.rest t.1))
  labels_set i (place ∷ places) [] a b c le s t = tt
  labels_set i [] ls a b c le s t = tt

  last_set : (i : ℕ) (places ls : List ℕ) (a b : ℕ) → LabelsAtEnd here CleanupAt gives i places ls a b → Sets i places ls a
  last_set i (place ∷ places) (l ∷ ls) a b s =
      let one = if_same (nat_le i place) l a s.mid s.first in
      ((λ from. leads_less here exact l a s.mid (omega (arith, one)) (if_leads (nat_le i place) l a s.mid (le-leb i place from) s.first)), sets_less i places ls a s.mid (omega (arith, one)) (last_set i places ls s.mid b s.rest))
  last_set i (place ∷ places) [] a b s = tt
  last_set i [] ls a b s = tt

  -- the body of a switch paces, and sets its labels behind its tests
  record Cases (i : ℕ) (places ls : List ℕ) (a b : ℕ) : Type 0 where
    pace : Pace here a b
    sets : Sets i places ls a

  otherwise_paces : (default a b : ℕ) → Leads here default b → (Plain here effect.Drop ▷ Jump here default) a b → Pace here a b
  otherwise_paces default a b leads s = both here exact a s.mid b (plain_paces here exact _ a s.mid refl s.first) (ahead_paces here exact (instruction.Jump default) default s.mid b refl leads s.rest)

  tests_pace : (ks : List Value) (places ls : List ℕ) (default a b : ℕ) → Leads here default b → Sets 0 places ls b → TestsAt here CleanupAt gives ks places ls default a b → Pace here a b
  tests_pace (k ∷ ks) (place ∷ places) (l ∷ ls) default a b leads sets t =
      let next = t.label in
      let r0 = t.is in let r1 = r0.rest in let r2 = r1.rest in let r3 = r2.rest in let r4 = r3.rest in let r5 = r4.rest in
      let others = tests_pace ks places ls default r5.mid b leads sets.1 r5.rest in
      let same = r5.first.same in
      let le = others.onward in
      let jump = ahead_paces here exact (instruction.Jump l) l r3.mid r4.mid refl (leads_less here exact l r4.mid b (omega (arith, same, le)) (sets.0 (omega arith))) r4.first in
      let found = both here exact r2.mid r3.mid r4.mid (plain_paces here exact _ r2.mid r3.mid refl r3.first) jump in
      let le' = found.onward in
      let test = ahead_paces here exact (instruction.Unless next) next r1.mid r2.mid refl (leads_less here exact next r2.mid r5.mid (omega (arith, same, le')) (label_leads here exact next r4.mid r5.mid r5.first)) r2.first in
      both here exact a r0.mid b (plain_paces here exact _ a r0.mid refl r0.first) (both here exact r0.mid r1.mid b (equals_paces here exact k r0.mid r1.mid r1.first) (both here exact r1.mid r2.mid b test (both here exact r2.mid r4.mid b found (both here exact r4.mid r5.mid b (label_paces here exact next r4.mid r5.mid r5.first) others))))
  tests_pace (k ∷ ks) (place ∷ places) [] default a b leads sets t = absurd t
  tests_pace (k ∷ ks) [] ls default a b leads sets t = otherwise_paces default a b leads t
  tests_pace [] places ls default a b leads sets t = otherwise_paces default a b leads t

  mutual
    pub statement_paces : (s : Statement) (exits : Exits) (a b : ℕ) → Away exits b → StatementAt here CleanupAt gives s exits a b → Pace here a b
    statement_paces (Evaluate line e) exits a b w t = seq_paces here exact a b (line_paces line) (λ a b. seq_paces here exact a b (expression_paces here exact e) (go_paces here exact (is_void e))) t
    statement_paces (Reset line from to) exits a b w t = seq_paces here exact a b (line_paces line) (λ a b. plain_paces here exact _ a b refl) t
    statement_paces (Return line []) exits a b w t =
        let r = t.rest in
        both here exact a t.mid b (line_paces line a t.mid t.first) (both here exact t.mid r.mid b (stuck_paces here exact gives t.mid r.mid r.first) (ahead_paces here exact (instruction.Jump exits.to_return) exits.to_return r.mid b refl w.returns r.rest))
    statement_paces (Return line (e ∷ es)) exits a b w t =
        let r = t.rest in let q = r.rest in
        both here exact a t.mid b (line_paces line a t.mid t.first) (both here exact t.mid r.mid b (stuck_paces here exact (not gives) t.mid r.mid r.first) (both here exact r.mid q.mid b (operand_paces here exact e r.mid q.mid q.first) (ahead_paces here exact (instruction.Jump exits.to_return) exits.to_return q.mid b refl w.returns q.rest)))
    statement_paces (Break line) exits a b w t = both here exact a t.mid b (line_paces line a t.mid t.first) (ahead_paces here exact (instruction.Jump exits.to_break) exits.to_break t.mid b refl w.breaks t.rest)
    statement_paces (Continue line) exits a b w t = both here exact a t.mid b (line_paces line a t.mid t.first) (ahead_paces here exact (instruction.Jump exits.to_continue) exits.to_continue t.mid b refl w.continues t.rest)
    statement_paces (If' line e p first q second) exits a b w t =
        let other = t.label in let out = t.is.label in
        let r0 = t.is.is in let r1 = r0.rest in let r2 = r1.rest in let r3 = r2.rest in let r4 = r3.rest in let r5 = r4.rest in let r6 = r5.rest in
        let end = r6.rest.same in
        let no = statements_pace second exits r5.mid r6.mid (away_less exits r6.mid b (omega (arith, end)) w) r6.first in
        let last = both here exact r5.mid r6.mid b no (label_paces here exact out r6.mid b r6.rest) in
        let same = r5.first.same in
        let le = last.onward in
        let jump = ahead_paces here exact (instruction.Jump out) out r3.mid r4.mid refl (leads_less here exact out r4.mid b (omega (arith, same, le)) (label_leads here exact out r6.mid b r6.rest)) r4.first in
        let on = jump.onward in
        let yes = statements_pace first exits r2.mid r3.mid (away_less exits r3.mid b (omega (arith, on, same, le)) w) r3.first in
        let held = both here exact r2.mid r3.mid r4.mid yes jump in
        let le' = held.onward in
        let test = ahead_paces here exact (instruction.Unless other) other r1.mid r2.mid refl (leads_less here exact other r2.mid r5.mid (omega (arith, same, le')) (label_leads here exact other r4.mid r5.mid r5.first)) r2.first in
        both here exact a r0.mid b (line_paces line a r0.mid r0.first) (both here exact r0.mid r1.mid b (operand_paces here exact e r0.mid r1.mid r1.first) (both here exact r1.mid r2.mid b test (both here exact r2.mid r4.mid b held (both here exact r4.mid r5.mid b (label_paces here exact other r4.mid r5.mid r5.first) last))))
    statement_paces (Loop' line first e step q body) exits a b w t =
        let top = t.label in let inner = t.is.label in let next = t.is.is.label in let out = t.is.is.is.label in
        let r0 = t.is.is.is.is in let r1 = r0.rest in let r2 = r1.rest in let r3 = r2.rest in let r4 = r3.rest in let r5 = r4.rest in let r6 = r5.rest in let r7 = r6.rest in let r8 = r7.rest in let r9 = r8.rest in let r10 = r9.rest in let r11 = r10.rest in
        let back = back_paces here exact top r2.mid r10.mid r11.mid r2.first.at r3.first.at r11.first in
        let last = both here exact r8.mid r9.mid b (line_paces line r8.mid r9.mid r9.first) (both here exact r9.mid r10.mid b (goes_pace here exact step r9.mid r10.mid r10.first) (both here exact r10.mid r11.mid b back (label_paces here exact out r11.mid b r11.rest))) in
        let same = r8.first.same in
        let le = last.onward in
        let leaves = label_leads here exact out r11.mid b r11.rest in
        let goes = label_leads here exact next r7.mid r8.mid r8.first in
        let exit : Away (inside out next exits) r7.mid = record {
          breaks = leads_less here exact out r7.mid b (omega (arith, same, le)) leaves;
          continues = leads_less here exact next r7.mid r8.mid (omega (arith, same)) goes;
          returns = leads_less here exact exits.to_return r7.mid b (omega (arith, same, le)) w.returns;
        } in
        let turn = both here exact r6.mid r7.mid b (statements_pace body (inside out next exits) r6.mid r7.mid exit r7.first) (both here exact r7.mid r8.mid b (label_paces here exact next r7.mid r8.mid r8.first) last) in
        let in_same = r6.first.same in
        let on = turn.onward in
        let test = ahead_paces here exact (instruction.Unless out) out r4.mid r5.mid refl (leads_less here exact out r5.mid b (omega (arith, in_same, on)) leaves) r5.first in
        let ahead = both here exact r1.mid r2.mid r5.mid (label_paces here exact top r1.mid r2.mid r2.first) (both here exact r2.mid r3.mid r5.mid (plain_paces here exact _ r2.mid r3.mid refl r3.first) (both here exact r3.mid r4.mid r5.mid (operand_paces here exact e r3.mid r4.mid r4.first) test)) in
        let far = ahead.onward in
        let enter = first_paces first inner r0.mid r1.mid (leads_less here exact inner r1.mid r6.mid (omega (arith, in_same, far)) (label_leads here exact inner r5.mid r6.mid r6.first)) r1.first in
        both here exact a r0.mid b (line_paces line a r0.mid r0.first) (both here exact r0.mid r1.mid b enter (both here exact r1.mid r5.mid b ahead (both here exact r5.mid r6.mid b (label_paces here exact inner r5.mid r6.mid r6.first) turn)))
    statement_paces (Switch' line e labels places other p body) exits a b w t =
        let out = t.label in let default = t.is.label in let ls = t.is.is.labels in
        let r0 = t.is.is.is in let r1 = r0.rest in let r2 = r1.rest in let r3 = r2.rest in
        let end = r3.rest.same in
        let exit : Away (record exits { to_break = out }) r3.mid = record {
          breaks = leads_less here exact out r3.mid b (omega (arith, end)) (label_leads here exact out r3.mid b r3.rest);
          continues = leads_less here exact exits.to_continue r3.mid b (omega (arith, end)) w.continues;
          returns = leads_less here exact exits.to_return r3.mid b (omega (arith, end)) w.returns;
        } in
        let cases = cases_pace 0 (other ∷ places) (default ∷ ls) body (record exits { to_break = out }) r2.mid r3.mid exit r3.first in
        let tests = tests_pace labels places ls default r1.mid r2.mid (cases.sets.0 (omega arith)) cases.sets.1 r2.first in
        both here exact a r0.mid b (line_paces line a r0.mid r0.first) (both here exact r0.mid r1.mid b (operand_paces here exact e r0.mid r1.mid r1.first) (both here exact r1.mid r2.mid b tests (both here exact r2.mid r3.mid b cases.pace (label_paces here exact out r3.mid b r3.rest))))
    statement_paces (Block' line p body []) exits a b w t = both here exact a t.mid b (line_paces line a t.mid t.first) (statements_pace body exits t.mid b w t.rest)
    statement_paces (Block' line p body (c ∷ cs)) exits a b w t = absurd t.rest.is.is.is.is.rest.first.first.rest.first

    pub statements_pace : {m : _} (ss : Row_of-Statement m) (exits : Exits) (a b : ℕ) → Away exits b → StatementsAt here CleanupAt gives ss exits a b → Pace here a b
    statements_pace end_of-Statement exits a b w t = nothing_paces here exact a b t
    statements_pace (more_of-Statement s rest) exits a b w t =
        let last = statements_pace rest exits t.mid b w t.rest in
        let le = last.onward in
        both here exact a t.mid b (statement_paces s exits a t.mid (away_less exits t.mid b le w) t.first) last

    cases_pace : {m : _} (i : ℕ) (places ls : List ℕ) (ss : Row_of-Statement m) (exits : Exits) (a b : ℕ) → Away exits b → CasesAt here CleanupAt gives i places ls ss exits a b → Cases i places ls a b
    cases_pace i places ls end_of-Statement exits a b w t = record { pace = nothing_paces here exact a b (last_same i places ls a b t); sets = last_set i places ls a b t }
    cases_pace i places ls (more_of-Statement s rest) exits a b w t =
        let r = t.rest in
        let last = cases_pace (i + 1) places ls rest exits r.mid b w r.rest in
        let le = last.pace.onward in
        let one = statement_paces s exits t.mid r.mid (away_less exits r.mid b le w) r.first in
        let on = one.onward in
        record {
          pace = both here exact a t.mid b (nothing_paces here exact a t.mid (labels_same i places ls a t.mid t.first)) (both here exact t.mid r.mid b one last.pace);
          sets = labels_set i places ls a t.mid r.mid on t.first last.sets;
        }

  pub body_paces : (ss : List Statement) (exits : Exits) (a b : ℕ) → Away exits b → BodyAt here CleanupAt gives ss exits a b → Pace here a b
  body_paces [] exits a b w t = nothing_paces here exact a b t
  body_paces (s ∷ ss) exits a b w t =
      let last = body_paces ss exits t.mid b w t.rest in
      let le = last.onward in
      both here exact a t.mid b (statement_paces s exits a t.mid (away_less exits t.mid b le w) t.first) last
