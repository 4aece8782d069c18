-- The code of a switch, as it is written.
use Rattle.std.proofs.Common.{◌≡◌, ℕ, ◌+◌, ◌-◌, ◌<◌, ◌≤◌, Bool, List, [], ◌∷◌, ◌++◌, length, length-append, replicate, Option, Some, None, Result, refl, sym, ap, ◌∙◌, subst, arith}
use Rattle.std.specs.Prelude.{slice_get, OnOk}
use Rattle.std.proofs.lemmas.List.{get_or-append_right, get_or-replicate, length-replicate}
use Rattle.std.proofs.lemmas.Option.{slice_get-get_or, slice_get_within}
use Rattle.mql_mean.specs.declared.value.Value.{Value}
use Rattle.mql_meaning.specs.declared.tree.Function.{Function}
use Rattle.mql_meaning.specs.declared.tree.Expression.{Expression}
use Rattle.mql_meaning.specs.declared.tree.Statement.{Statement}
use Rattle.mql_meaning.specs.declared.tree.Statement.TheVariants as y
use Rattle.stack_code.specs.declared.code.Instruction.TheVariants as instruction
use Rattle.stack_code.specs.declared.code.Effect.TheVariants as effect
use Rattle.stack_follows.specs.Spans.{Listing}
use Rattle.stack_follows.specs.Stands.{Exits as Leads}
use Rattle.stack_emission.specs.declared.draft.Draft.{Draft}
use Rattle.stack_emission.specs.declared.statements.Exits.{Exits}
use Rattle.stack_emission.specs.Draft.{Coding, listing_in, Grown, Writes, Emits, Adds, NewLabel, NewLabels, Wait, SetLabel, ◌then◌, with_label, label, jump, plain, equals, operand}
use Rattle.stack_emission.specs.Statements.{leads, line_at, statement, breaking, label_of, otherwise, tests, cases, all_cases, switched}
use Rattle.stack_emission.proofs.Kept.{one_stays, label_stays, equals_stays, operand_stays}
use Rattle.stack_emission.proofs.SwitchRows.{tests_stay}
use Rattle.stack_emission.proofs.StatementRows.{cases_stay, all_cases_stay, switch_stands}
use Rattle.stack_emission.proofs.Writes.{slice_get_more, Unplaced, grown_on, seq, less, both, form, as_form, new_unplaced, still, still_form, still_added, still_set, places, then_added, then_placed, then_labelled}
use Rattle.stack_emission.proofs.Emits.{on_ok, put_emits}

-- where no label fits
pub otherwise_emits : {E : Type 0} (r : Result (Unit {0}) E) (default : ℕ) (d d1 d2 : Draft) → Adds (instruction.Plain effect.Drop) d d1 → OnOk r (Adds (instruction.Jump default) d1 d2) → OnOk r (Emits (otherwise default) d d2)
otherwise_emits r default d d1 d2 a h = on_ok r (λ b. both (plain effect.Drop) (jump default) d d1 d2 (one_stays _) (put_emits _ d d1 a) (put_emits _ d1 d2 b)) h

-- the end of the tests
pub tests_end : {E : Type 0} (r : Result (Unit {0}) E) (to : ℕ → ℕ) (ks : List Value) (ps : List ℕ) (default : ℕ) (d d1 : Draft) → ks ≡ [] → OnOk r (Emits (otherwise default) d d1) → OnOk r (Emits (tests to ks ps default) d d1)
tests_end r to ks ps default d d1 e h = on_ok r (λ a. subst (λ ks. Emits (tests to ks ps default) d d1) (sym e) a) h

pub places_end : {E : Type 0} (r : Result (Unit {0}) E) (to : ℕ → ℕ) (ks : List Value) (ps : List ℕ) (default : ℕ) (d d1 : Draft) → ps ≡ [] → OnOk r (Emits (otherwise default) d d1) → OnOk r (Emits (tests to ks ps default) d d1)
places_end r to ks ps default d d1 e h = on_ok r (λ a. subst (λ ps. Emits (tests to ks ps default) d d1) (sym e) (no_places ks a)) h
  where
    no_places : (ks : List Value) → Emits (otherwise default) d d1 → Emits (tests to ks [] default) d d1
    no_places [] a = a
    no_places (k ∷ ks) a = a

-- one test, and those behind it
module _ (to : ℕ → ℕ) (default : ℕ) (v : Value) (vs : List Value) (p : ℕ) (ps : List ℕ) (next : ℕ) (d d1 d2 d3 d4 d5 d6 : Draft) (nl : NewLabel next d d1) (twice : Adds (instruction.Plain effect.Twice) d1 d2) (test : Emits (equals v) d2 d3) (skip : Adds (instruction.Unless next) d3 d4) (drop : Adds (instruction.Plain effect.Drop) d4 d5) where
  pub next_test_waits : (l : ℕ) → Adds (instruction.Jump l) d5 d6 → Unplaced next d6
  next_test_waits l leave = still_added _ next d5 d6 leave (still_added _ next d4 d5 drop (still_added _ next d3 d4 skip (still_form (equals v) next d2 d3 test (still_added _ next d1 d2 twice (new_unplaced next d d1 nl)))))

  pub test_written : (d7 d8 : Draft) → Adds (instruction.Jump (to p)) d5 d6 → SetLabel next d6 d7 → Emits (tests to vs ps default) d7 d8 → Emits (tests to (v ∷ vs) (p ∷ ps) default) d d8
  test_written d7 d8 leave here more =
      let n = length d.labels in
      then_labelled n next _ d d1 d8 (omega arith) nl λ from_next le1.
      then_added n _ _ d1 d2 d8 le1 twice λ le2.
      form n (equals v) _ d2 d3 d8 (equals_stays v) le2 test λ le3.
      then_added n _ _ d3 d4 d8 le3 skip λ le4.
      then_added n _ _ d4 d5 d8 le4 drop λ le5.
      then_added n _ _ d5 d6 d8 le5 leave λ le6.
      then_placed n next _ d6 d7 d8 le6 (next_test_waits (to p) leave) from_next here λ le7.
      less n (length d7.labels) (tests to vs ps default) d7 d8 le7 more

pub test_emits : {E : Type 0} (r : Result (Unit {0}) E) (to : ℕ → ℕ) (default : ℕ) (ks : List Value) (qs : List ℕ) (v : Value) (vs : List Value) (p : ℕ) (ps : List ℕ) (l next : ℕ) (d d1 d2 d3 d4 d5 d6 d7 d8 : Draft) → ks ≡ v ∷ vs → qs ≡ p ∷ ps → l ≡ to p → NewLabel next d d1 → Adds (instruction.Plain effect.Twice) d1 d2 → Emits (equals v) d2 d3 → Adds (instruction.Unless next) d3 d4 → Adds (instruction.Plain effect.Drop) d4 d5 → Adds (instruction.Jump l) d5 d6 → SetLabel next d6 d7 → OnOk r (Emits (tests to vs ps default) d7 d8) → OnOk r (Emits (tests to ks qs default) d d8)
test_emits r to default ks qs v vs p ps l next d d1 d2 d3 d4 d5 d6 d7 d8 is js ls nl twice test skip drop leave here h =
    on_ok r
    (λ more.
    subst (λ ks. Emits (tests to ks qs default) d d8) (sym is) (subst (λ qs. Emits (tests to (v ∷ vs) qs default) d d8) (sym js)
    (test_written to default v vs p ps next d d1 d2 d3 d4 d5 d6 nl twice test skip drop d7 d8 (subst (λ l. Adds (instruction.Jump l) d5 d6) ls leave) here more)))
    h

-- labels in a row
abbrev with_row : ℕ → Draft → Draft
with_row count d = record d { labels = d.labels ++ replicate count None }

one_of_row : (xs : List (Option ℕ)) (count l : ℕ) → length xs ≤ l → l < length xs + count → slice_get (xs ++ replicate count None) l ≡ Some None
one_of_row xs count l ge lt =
    let ys : List (Option ℕ) = replicate count None in
    let inside : l < length (xs ++ ys) = omega (arith, lt, length-append xs ys, length-replicate {A = Option ℕ} count None) in
    let rest : l - length xs < count = omega (arith, ge, lt) in
    slice_get-get_or (xs ++ ys) l None inside ∙ ap Some (get_or-append_right xs ys (length xs) l None refl ge ∙ get_or-replicate count (l - length xs) None None rest)

pub row_waits : (count first : ℕ) (d d1 : Draft) → NewLabels count first d d1 → Wait first (first + count) d1
row_waits count first d d1 nl =
    let at = nl.numbered in
    record { each = λ l ge lt. ap (λ (d : Draft). slice_get d.labels l) nl.draft ∙ one_of_row d.labels count l (omega (arith, at, ge)) (omega (arith, at, lt)) }

row_grown_on : (n count : ℕ) (d : Draft) → Grown n d (with_row count d)
row_grown_on n count d = record {
  instructions = λ p j h. h;
  constants = λ k u h. h;
  placed = λ l p h. slice_get_more d.labels (replicate count None) l (Some p) h;
  unplaced = λ l lt h. slice_get_more d.labels (replicate count None) l None h;
  labels = omega (arith, length-append d.labels (replicate count None));
}

pub row_grown : (n count first : ℕ) (d d1 : Draft) → NewLabels count first d d1 → Grown n d d1
row_grown n count first d d1 nl = subst (Grown n d) (sym nl.draft) (row_grown_on n count d)

then_row : (n count first : ℕ) (A : ℕ → Coding) (d d1 d2 : Draft) → n ≤ length d.labels → NewLabels count first d d1 → (n ≤ first → n ≤ length d1.labels → Writes n (A first) d1 d2) → Writes n (with_label A) d d2
then_row n count first A d d1 d2 le nl a =
    let g = row_grown n count first d d1 nl in
    let more = g.labels in
    let at = nl.numbered in
    let w = a (omega (arith, le, at)) (omega (arith, le, more)) in
    record {
      grown = grown_on n d d1 d2 g w.grown;
      is = λ fs. record { label = first; is = subst (λ k. A first fs (listing_in fs d2) k (length d2.instructions)) (ap (λ (d : Draft). length d.instructions) nl.draft) (w.is fs) };
    }

-- labels that go on waiting
pub wait_form : (A : Coding) (from to : ℕ) (d d1 : Draft) → Emits A d d1 → Wait from to d → Wait from to d1
wait_form A from to d d1 a w = record { each = λ l ge lt. a.grown.unplaced l (slice_get_within d.labels l None (w.each l ge lt)) (w.each l ge lt) }

waits_one : (from to l : ℕ) (d : Draft) → from ≤ l → l < to → Wait from to d → Unplaced l d
waits_one from to l d ge lt w = record { is = w.each l ge lt }

-- one more statement behind its label
snoc : (gives : Bool) (exits : Leads) (fs : List Function) (here : Listing) (first : ℕ) (ss : List Statement) (s : Statement) (a m b : ℕ) → cases gives first ss exits fs here a m → (label (first + length ss) then statement gives s exits) fs here m b → cases gives first (ss ++ s ∷ []) exits fs here a b
snoc gives exits fs here first [] s a m b h t =
    let at : first + 0 ≡ first = omega arith in
    record { mid = b; first = subst (λ p. (label first then statement gives s exits) fs here p b) (sym h) (subst (λ l. (label l then statement gives s exits) fs here m b) at t); rest = refl }
snoc gives exits fs here first (u ∷ us) s a m b h t =
    let at : first + length (u ∷ us) ≡ first + 1 + length us = omega arith in
    record { mid = h.mid; first = h.first; rest = snoc gives exits fs here (first + 1) us s h.mid m b h.rest (subst (λ l. (label l then statement gives s exits) fs here m b) at t) }

module _ (gives : Bool) (exits : Leads) (first end l i : ℕ) (ss : List Statement) (d0 d : Draft) (at : length ss ≡ i) (is : l ≡ first + i) (written : Writes first (cases gives first ss exits) d0 d) (waits : Wait (first + i) (first + end + 1) d) where
  pub case_waits : i ≤ end → Unplaced l d
  case_waits le = waits_one (first + i) (first + end + 1) l d (omega (arith, is)) (omega (arith, is, le)) waits

  labelled : (le : i ≤ end) (d1 : Draft) → SetLabel l d d1 → Writes first (label (first + length ss)) d d1
  labelled le d1 set =
      let same : l ≡ first + length ss = omega (arith, is, at) in
      subst (λ l. Writes first (label l) d d1) same (places first l d d1 (case_waits le) (omega (arith, is)) set)

  pub case_written : (lt : i < end) (s : Statement) (d1 d2 : Draft) → SetLabel l d d1 → Emits (statement gives s exits) d1 d2 → Writes first (cases gives first (ss ++ s ∷ []) exits) d0 d2
  case_written lt s d1 d2 set turn =
      let le : i ≤ end = omega (arith, lt) in
      let one = labelled le d1 set in
      let there = slice_get_within d.labels l None (case_waits le).is in
      let more = one.grown.labels in
      let known : first ≤ length d1.labels = omega (arith, there, more, is) in
      as_form first (cases gives first ss exits then (label (first + length ss) then statement gives s exits)) (cases gives first (ss ++ s ∷ []) exits) d0 d2 (λ fs here a b t. snoc gives exits fs here first ss s a t.mid b t.first t.rest)
      (seq first (cases gives first ss exits) (label (first + length ss) then statement gives s exits) d0 d d2 (cases_stay gives first ss exits) written
      (seq first (label (first + length ss)) (statement gives s exits) d d1 d2 (label_stays (first + length ss)) one (less first (length d1.labels) (statement gives s exits) d1 d2 known turn)))

  pub others_wait : (s : Statement) (d1 d2 : Draft) → SetLabel l d d1 → Emits (statement gives s exits) d1 d2 → Wait (first + (i + 1)) (first + end + 1) d2
  others_wait s d1 d2 set turn = wait_form (statement gives s exits) (first + (i + 1)) (first + end + 1) d1 d2 turn (record { each = λ k ge lt. (still_set l k d d1 (λ e. omega (arith, is, ge, e)) set (record { is = waits.each k (omega (arith, ge)) lt })).is })

  pub all_written : (body : List Statement) (d1 : Draft) → ss ≡ body → length body ≡ end → i ≡ end → SetLabel l d d1 → Writes first (all_cases gives first body exits) d0 d1
  all_written body d1 same long e set = subst (λ body. Writes first (all_cases gives first body exits) d0 d1) same (seq first (cases gives first ss exits) (label (first + length ss)) d0 d d1 (cases_stay gives first ss exits) written (labelled (omega (arith, e)) d1 set))

-- a switch
module _ (line : ℕ) (e : Expression) (labels : List Value) (spots : List ℕ) (other : ℕ) (gives : Bool) (body : List Statement) (exits : Leads) (out first : ℕ) (d d1 d2 d3 d4 d5 : Draft) (nout : NewLabel out d d1) (nfirst : NewLabels (length body + 1) first d1 d2) (lined : Emits (line_at line) d2 d3) (test : Emits (operand e) d3 d4) (tested : Emits (tests (label_of first (length body)) labels spots (label_of first (length body) other)) d4 d5) where
  pub body_waits : Wait first (first + length body + 1) d5
  body_waits =
      let at : first + (length body + 1) ≡ first + length body + 1 = omega arith in
      subst (λ to. Wait first to d5) at
      (wait_form (tests (label_of first (length body)) labels spots (label_of first (length body) other)) first (first + (length body + 1)) d4 d5 tested
      (wait_form (operand e) first (first + (length body + 1)) d3 d4 test
      (wait_form (line_at line) first (first + (length body + 1)) d2 d3 lined (row_waits (length body + 1) first d1 d2 nfirst))))

  out_below : out < length d1.labels
  out_below = slice_get_within d1.labels out None (new_unplaced out d d1 nout).is

  out5 : Unplaced out d5
  out5 =
      still_form (tests (label_of first (length body)) labels spots (label_of first (length body) other)) out d4 d5 tested
      (still_form (operand e) out d3 d4 test
      (still_form (line_at line) out d2 d3 lined
      (still (length d1.labels) out d1 d2 out_below (row_grown (length d1.labels) (length body + 1) first d1 d2 nfirst) (new_unplaced out d d1 nout))))

  module _ (d6 : Draft) (turns : Writes first (all_cases gives first body (breaking out exits)) d5 d6) where
    pub switch_out_waits : Unplaced out d6
    switch_out_waits =
        let at = nfirst.numbered in
        let lt = out_below in
        still first out d5 d6 (omega (arith, at, lt)) turns.grown out5

    pub switch_written : (d7 : Draft) → SetLabel out d6 d7 → Emits (switched line e labels spots other gives body exits) d d7
    switch_written d7 end =
        let n = length d.labels in
        then_labelled n out _ d d1 d7 (omega arith) nout λ from_out le1.
        then_row n (length body + 1) first _ d1 d2 d7 le1 nfirst λ from_first le2.
        form n (line_at line) _ d2 d3 d7 (one_stays _) le2 lined λ le3.
        form n (operand e) _ d3 d4 d7 (operand_stays e) le3 test λ le4.
        form n (tests (label_of first (length body)) labels spots (label_of first (length body) other)) _ d4 d5 d7 (tests_stay (label_of first (length body)) labels spots (label_of first (length body) other)) le4 tested λ le5.
        seq n (all_cases gives first body (breaking out exits)) (label out) d5 d6 d7 (all_cases_stay gives first body (breaking out exits)) (less n first (all_cases gives first body (breaking out exits)) d5 d6 from_first turns) (places n out d6 d7 switch_out_waits from_out end)

pub switch_emits : {E : Type 0} (r : Result (Unit {0}) E) (gives : Bool) (line : ℕ) (exits : Exits) (d d1 : Draft) (e : Expression) (labels : List Value) (spots : List ℕ) (other : ℕ) (body : List Statement) → OnOk r (Emits (switched line e labels spots other gives body (leads exits)) d d1) → OnOk r (Emits (statement gives (y.Switch line e labels spots other body) (leads exits)) d d1)
switch_emits r gives line exits d d1 e labels spots other body h = on_ok r (as_form (length d.labels) (switched line e labels spots other gives body (leads exits)) (statement gives (y.Switch line e labels spots other body) (leads exits)) d d1 (λ fs here a b. switch_stands fs here gives line e labels spots other body (leads exits) a b)) h
