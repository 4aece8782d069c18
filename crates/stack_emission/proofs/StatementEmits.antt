-- The code of statements, as it is written.
use Rattle.std.proofs.Common.{◌≡◌, ◌≢◌, ℕ, not, Bool, true, false, List, [], ◌∷◌, ◌++◌, length, Result, refl, sym, subst, arith}
use Rattle.std.specs.Prelude.{OnOk}
use Rattle.mql_meaning.specs.declared.tree.Cleanup.{Cleanup}
use Rattle.mql_meaning.specs.declared.tree.Function.{Function}
use Rattle.mql_meaning.specs.declared.tree.Expression.{Expression}
use Rattle.mql_meaning.specs.declared.tree.Statement.{Statement}
use Rattle.mql_meaning.specs.declared.tree.Statement.TheVariants as y
use Rattle.mql_meaning.specs.Expressions.{is_void}
use Rattle.stack_code.specs.declared.code.Instruction.{Instruction}
use Rattle.stack_code.specs.declared.code.Instruction.TheVariants as instruction
use Rattle.stack_code.specs.declared.code.Effect.TheVariants as effect
use Rattle.stack_follows.specs.Spans.{Listing}
use Rattle.stack_follows.specs.Stands.{inside, Exits as Leads}
use Rattle.stack_emission.specs.declared.draft.Draft.{Draft}
use Rattle.stack_emission.specs.declared.statements.Exits.{Exits}
use Rattle.stack_emission.specs.Draft.{Coding, Emits, Adds, NewLabel, SetLabel, ◌then◌, no_instruction, one, jump, plain, stuck_if, let_go, expression, operand, all_let_go}
use Rattle.stack_emission.specs.Statements.{leads, line_at, statement, statements, given, evaluated, restarted, returned, left, begun, branches, loop}
use Rattle.stack_emission.proofs.Kept.{Stays, then_stays, one_stays, stuck_stays, expression_stays, operand_stays, all_go_stay}
use Rattle.stack_emission.proofs.StatementRows.{statements_stay, given_stays, begun_stays, evaluate_stands, return_stands, if_stands, loop_stands, block_stands}
use Rattle.stack_emission.proofs.Writes.{Unplaced, both, form, nothing, as_form, new_unplaced, still_form, still_added, still_new, still_set, new_other, places, then_added, then_placed, then_labelled}
use Rattle.stack_emission.proofs.Emits.{on_ok, put_emits, choice_written}

pub added : {E : Type 0} (r : Result (Unit {0}) E) (i : Instruction) (d d1 : Draft) → OnOk r (Adds i d d1) → OnOk r (Emits (one i) d d1)
added r i d d1 h = on_ok r (put_emits i d d1) h

-- the beginning of a loop
pub begun_emits : {E : Type 0} (r : Result (Unit {0}) E) (t : Bool) (inner : ℕ) (d d1 : Draft) → t ≡ true → OnOk r (Adds (instruction.Jump inner) d d1) → OnOk r (Emits (begun t inner) d d1)
begun_emits r t inner d d1 e h = on_ok r (λ a. subst (λ t. Emits (begun t inner) d d1) (sym e) (as_form (length d.labels) (one (instruction.Jump inner)) (begun true inner) d d1 (λ fs here a b s. s) (put_emits _ d d1 a))) h

pub not_begun : (t : Bool) (inner : ℕ) (d : Draft) → t ≡ false → Emits (begun t inner) d d
not_begun t inner d e = subst (λ t. Emits (begun t inner) d d) (sym e) (as_form (length d.labels) no_instruction (begun false inner) d d (λ fs here a b s. s) (nothing (length d.labels) d))

-- what is given back
pub none_given : {E : Type 0} (r : Result (Unit {0}) E) (gives : Bool) (es : List Expression) (d d1 : Draft) → es ≡ [] → OnOk r (Emits (stuck_if gives) d d1) → OnOk r (Emits (given gives es) d d1)
none_given r gives es d d1 e h = on_ok r (λ a. subst (λ es. Emits (given gives es) d d1) (sym e) a) h

pub one_given : {E : Type 0} (r : Result (Unit {0}) E) (gives : Bool) (es us : List Expression) (e : Expression) (d d1 d2 : Draft) → es ≡ e ∷ us → Emits (stuck_if (not gives)) d d1 → OnOk r (Emits (operand e) d1 d2) → OnOk r (Emits (given gives es) d d2)
one_given r gives es us e d d1 d2 is a h = on_ok r (λ b. subst (λ es. Emits (given gives es) d d2) (sym is) (both (stuck_if (not gives)) (operand e) d d1 d2 (stuck_stays (not gives)) a b)) h

-- simple statements, behind their lines
pub evaluated_emits : {E : Type 0} (r : Result (Unit {0}) E) (line : ℕ) (e : Expression) (d d1 d2 d3 : Draft) → Emits (line_at line) d d1 → Emits (expression e) d1 d2 → OnOk r (Emits (let_go (is_void e)) d2 d3) → OnOk r (Emits (evaluated line e) d d3)
evaluated_emits r line e d d1 d2 d3 a b h = on_ok r (λ c. both (line_at line) (expression e then let_go (is_void e)) d d1 d3 (one_stays _) a (both (expression e) (let_go (is_void e)) d1 d2 d3 (expression_stays e) b c)) h

pub restarted_emits : {E : Type 0} (r : Result (Unit {0}) E) (line from to : ℕ) (d d1 d2 : Draft) → Emits (line_at line) d d1 → OnOk r (Adds (instruction.Plain (effect.Reset from to)) d1 d2) → OnOk r (Emits (restarted line from to) d d2)
restarted_emits r line from to d d1 d2 a h = on_ok r (λ b. both (line_at line) (plain (effect.Reset from to)) d d1 d2 (one_stays _) a (put_emits _ d1 d2 b)) h

pub returned_emits : {E : Type 0} (r : Result (Unit {0}) E) (gives : Bool) (line : ℕ) (es : List Expression) (to : ℕ) (d d1 d2 d3 : Draft) → Emits (line_at line) d d1 → Emits (given gives es) d1 d2 → OnOk r (Emits (jump to) d2 d3) → OnOk r (Emits (returned gives line es to) d d3)
returned_emits r gives line es to d d1 d2 d3 a b h = on_ok r (λ c. both (line_at line) (given gives es then jump to) d d1 d3 (one_stays _) a (both (given gives es) (jump to) d1 d2 d3 (given_stays gives es) b c)) h

pub left_emits : {E : Type 0} (r : Result (Unit {0}) E) (line to : ℕ) (d d1 d2 : Draft) → Emits (line_at line) d d1 → OnOk r (Emits (jump to) d1 d2) → OnOk r (Emits (left line to) d d2)
left_emits r line to d d1 d2 a h = on_ok r (λ b. both (line_at line) (jump to) d d1 d2 (one_stays _) a b) h

-- the forms of statements
module _ {E : Type 0} (r : Result (Unit {0}) E) (gives : Bool) (line : ℕ) (exits : Exits) (d d1 : Draft) where
  pub evaluate_emits : (e : Expression) → OnOk r (Emits (evaluated line e) d d1) → OnOk r (Emits (statement gives (y.Evaluate line e) (leads exits)) d d1)
  evaluate_emits e h = on_ok r (as_form (length d.labels) (evaluated line e) (statement gives (y.Evaluate line e) (leads exits)) d d1 (λ fs here a b. evaluate_stands fs here gives line e (leads exits) a b)) h

  pub reset_emits : (from to : ℕ) → OnOk r (Emits (restarted line from to) d d1) → OnOk r (Emits (statement gives (y.Reset line from to) (leads exits)) d d1)
  reset_emits from to h = on_ok r (as_form (length d.labels) (restarted line from to) (statement gives (y.Reset line from to) (leads exits)) d d1 (λ fs here a b s h. s)) h

  pub return_emits : (es : List Expression) → OnOk r (Emits (returned gives line es exits.to_return) d d1) → OnOk r (Emits (statement gives (y.Return line es) (leads exits)) d d1)
  return_emits es h = on_ok r (as_form (length d.labels) (returned gives line es exits.to_return) (statement gives (y.Return line es) (leads exits)) d d1 (λ fs here a b. return_stands fs here gives line es (leads exits) a b)) h

  pub break_emits : OnOk r (Emits (left line exits.to_break) d d1) → OnOk r (Emits (statement gives (y.Break line) (leads exits)) d d1)
  break_emits h = on_ok r (as_form (length d.labels) (left line exits.to_break) (statement gives (y.Break line) (leads exits)) d d1 (λ fs here a b s h. s)) h

  pub continue_emits : OnOk r (Emits (left line exits.to_continue) d d1) → OnOk r (Emits (statement gives (y.Continue line) (leads exits)) d d1)
  continue_emits h = on_ok r (as_form (length d.labels) (left line exits.to_continue) (statement gives (y.Continue line) (leads exits)) d d1 (λ fs here a b s h. s)) h

  pub block_emits : (body : List Statement) (cleanups : List Cleanup) (d2 : Draft) → Emits (line_at line) d d1 → OnOk r (Emits (statements gives body (leads exits)) d1 d2) → OnOk r (Emits (statement gives (y.Block line body cleanups) (leads exits)) d d2)
  block_emits body cleanups d2 a h =
      on_ok r
      (λ b.
      as_form (length d.labels) (line_at line then statements gives body (leads exits)) (statement gives (y.Block line body cleanups) (leads exits)) d d2 (λ fs here a b. block_stands fs here gives line body cleanups (leads exits) a b)
      (both (line_at line) (statements gives body (leads exits)) d d1 d2 (one_stays _) a b))
      h

  pub if_emits : (e : Expression) (held failed : List Statement) → OnOk r (Emits (branches line e (statements gives held (leads exits)) (statements gives failed (leads exits))) d d1) → OnOk r (Emits (statement gives (y.If line e held failed) (leads exits)) d d1)
  if_emits e held failed h = on_ok r (as_form (length d.labels) (branches line e (statements gives held (leads exits)) (statements gives failed (leads exits))) (statement gives (y.If line e held failed) (leads exits)) d d1 (λ fs here a b. if_stands fs here gives line e held failed (leads exits) a b)) h

  pub loop_emits : (first : Bool) (e : Expression) (step : List Expression) (body : List Statement) → OnOk r (Emits (loop line first e step (statements gives body) (leads exits)) d d1) → OnOk r (Emits (statement gives (y.Loop line first e step body) (leads exits)) d d1)
  loop_emits first e step body h = on_ok r (as_form (length d.labels) (loop line first e step (statements gives body) (leads exits)) (statement gives (y.Loop line first e step body) (leads exits)) d d1 (λ fs here a b. loop_stands fs here gives line first e step body (leads exits) a b)) h

-- one more statement
snoc : (gives : Bool) (exits : Leads) (fs : List Function) (here : Listing) (ss : List Statement) (s : Statement) (a m b : ℕ) → statements gives ss exits fs here a m → statement gives s exits fs here m b → statements gives (ss ++ s ∷ []) exits fs here a b
snoc gives exits fs here [] s a m b h t = record { mid = b; first = subst (λ p. statement gives s exits fs here p b) (sym h) t; rest = refl }
snoc gives exits fs here (u ∷ us) s a m b h t = record { mid = h.mid; first = h.first; rest = snoc gives exits fs here us s h.mid m b h.rest t }

pub more_statements : (gives : Bool) (exits : Leads) (ss : List Statement) (s : Statement) (d d1 d2 : Draft) → Emits (statements gives ss exits) d d1 → Emits (statement gives s exits) d1 d2 → Emits (statements gives (ss ++ s ∷ []) exits) d d2
more_statements gives exits ss s d d1 d2 a b = as_form (length d.labels) (statements gives ss exits then statement gives s exits) (statements gives (ss ++ s ∷ []) exits) d d2 (λ fs here a b t. snoc gives exits fs here ss s a t.mid b t.first t.rest) (both (statements gives ss exits) (statement gives s exits) d d1 d2 (statements_stay gives ss exits) a b)

-- a condition, and what is done where it holds, and where it does not
pub tested : (line : ℕ) (e : Expression) (d d1 d2 : Draft) → Emits (line_at line) d d1 → Emits (operand e) d1 d2 → Emits (line_at line then operand e) d d2
tested line e d d1 d2 a b = both (line_at line) (operand e) d d1 d2 (one_stays _) a b

pub branches_emits : {E : Type 0} (r : Result (Unit {0}) E) (line : ℕ) (e : Expression) (gives : Bool) (held failed : List Statement) (exits : Leads) (other out : ℕ) (d d1 d2 d2' d3 d4 d5 d6 d7 d8 d9 : Draft) → NewLabel other d d1 → NewLabel out d1 d2 → Emits (line_at line) d2 d2' → Emits (operand e) d2' d3 → Adds (instruction.Unless other) d3 d4 → Emits (statements gives held exits) d4 d5 → Adds (instruction.Jump out) d5 d6 → SetLabel other d6 d7 → Emits (statements gives failed exits) d7 d8 → OnOk r (SetLabel out d8 d9) → OnOk r (Emits (branches line e (statements gives held exits) (statements gives failed exits)) d d9)
branches_emits r line e gives held failed exits other out d d1 d2 d2' d3 d4 d5 d6 d7 d8 d9 nother nout a b skip one leave here two h =
    on_ok r (λ end. choice_written (line_at line then operand e) (statements gives held exits) (statements gives failed exits) other out d d1 d2 d3 d4 d5 d6 nother nout (tested line e d2 d2' d3 a b) skip one leave d7 d8 here two d9 (then_stays (line_at line) (operand e) (one_stays _) (operand_stays e)) (statements_stay gives held exits) (statements_stay gives failed exits) end) h

-- a loop
module _ (line : ℕ) (first : Bool) (e : Expression) (step : List Expression) (body : Leads → Coding) (exits : Leads) (top inner next out : ℕ) (d d1 d2 d3 d4 d5 d6 : Draft) (ntop : NewLabel top d d1) (ninner : NewLabel inner d1 d2) (nnext : NewLabel next d2 d3) (nout : NewLabel out d3 d4) (lined : Emits (line_at line) d4 d5) (begins : Emits (begun first inner) d5 d6) where
  top4 : Unplaced top d4
  top4 = still_new out top d3 d4 nout (still_new next top d2 d3 nnext (still_new inner top d1 d2 ninner (new_unplaced top d d1 ntop)))

  inner4 : Unplaced inner d4
  inner4 = still_new out inner d3 d4 nout (still_new next inner d2 d3 nnext (new_unplaced inner d1 d2 ninner))

  next4 : Unplaced next d4
  next4 = still_new out next d3 d4 nout (new_unplaced next d2 d3 nnext)

  top_inner : top ≢ inner
  top_inner = new_other inner top d1 d2 ninner (new_unplaced top d d1 ntop)

  top_next : top ≢ next
  top_next = new_other next top d2 d3 nnext (still_new inner top d1 d2 ninner (new_unplaced top d d1 ntop))

  top_out : top ≢ out
  top_out = new_other out top d3 d4 nout (still_new next top d2 d3 nnext (still_new inner top d1 d2 ninner (new_unplaced top d d1 ntop)))

  inner_next : inner ≢ next
  inner_next = new_other next inner d2 d3 nnext (new_unplaced inner d1 d2 ninner)

  inner_out : inner ≢ out
  inner_out = new_other out inner d3 d4 nout (still_new next inner d2 d3 nnext (new_unplaced inner d1 d2 ninner))

  next_out : next ≢ out
  next_out = new_other out next d3 d4 nout (new_unplaced next d2 d3 nnext)

  to6 : (l : ℕ) → Unplaced l d4 → Unplaced l d6
  to6 l u = still_form (begun first inner) l d5 d6 begins (still_form (line_at line) l d4 d5 lined u)

  pub top_waits : Unplaced top d6
  top_waits = to6 top top4

  module _ (d7 d8 d9 d10 : Draft) (at_top : SetLabel top d6 d7) (stepped : Adds instruction.Step d7 d8) (test : Emits (operand e) d8 d9) (skip : Adds (instruction.Unless out) d9 d10) where
    to10 : (l : ℕ) → l ≢ top → Unplaced l d4 → Unplaced l d10
    to10 l ne u = still_added _ l d9 d10 skip (still_form (operand e) l d8 d9 test (still_added _ l d7 d8 stepped (still_set top l d6 d7 ne at_top (to6 l u))))

    pub inner_waits : Unplaced inner d10
    inner_waits = to10 inner (λ e. top_inner (sym e)) inner4

    module _ (d11 d12 : Draft) (at_inner : SetLabel inner d10 d11) (turn : Emits (body (inside out next exits)) d11 d12) where
      to12 : (l : ℕ) → l ≢ top → l ≢ inner → Unplaced l d4 → Unplaced l d12
      to12 l ne ni u = still_form (body (inside out next exits)) l d11 d12 turn (still_set inner l d10 d11 ni at_inner (to10 l ne u))

      pub next_waits : Unplaced next d12
      next_waits = to12 next (λ e. top_next (sym e)) (λ e. inner_next (sym e)) next4

      module _ (d13 d14 d15 d16 : Draft) (at_next : SetLabel next d12 d13) (again : Emits (line_at line) d13 d14) (goes : Emits (all_let_go step) d14 d15) (back : Adds (instruction.Jump top) d15 d16) where
        pub out_waits : Unplaced out d16
        out_waits = still_added _ out d15 d16 back (still_form (all_let_go step) out d14 d15 goes (still_form (line_at line) out d13 d14 again (still_set next out d12 d13 (λ e. next_out (sym e)) at_next (to12 out (λ e. top_out (sym e)) (λ e. inner_out (sym e)) (new_unplaced out d3 d4 nout)))))

        pub loop_written : (d17 : Draft) → Stays (body (inside out next exits)) → SetLabel out d16 d17 → Emits (loop line first e step body exits) d d17
        loop_written d17 stays end =
            let n = length d.labels in
            then_labelled n top _ d d1 d17 (omega arith) ntop λ from_top le1.
            then_labelled n inner _ d1 d2 d17 le1 ninner λ from_inner le2.
            then_labelled n next _ d2 d3 d17 le2 nnext λ from_next le3.
            then_labelled n out _ d3 d4 d17 le3 nout λ from_out le4.
            form n (line_at line) _ d4 d5 d17 (one_stays _) le4 lined λ le5.
            form n (begun first inner) _ d5 d6 d17 (begun_stays first inner) le5 begins λ le6.
            then_placed n top _ d6 d7 d17 le6 top_waits from_top at_top λ le7.
            then_added n instruction.Step _ d7 d8 d17 le7 stepped λ le8.
            form n (operand e) _ d8 d9 d17 (operand_stays e) le8 test λ le9.
            then_added n (instruction.Unless out) _ d9 d10 d17 le9 skip λ le10.
            then_placed n inner _ d10 d11 d17 le10 inner_waits from_inner at_inner λ le11.
            form n (body (inside out next exits)) _ d11 d12 d17 stays le11 turn λ le12.
            then_placed n next _ d12 d13 d17 le12 next_waits from_next at_next λ le13.
            form n (line_at line) _ d13 d14 d17 (one_stays _) le13 again λ le14.
            form n (all_let_go step) _ d14 d15 d17 (all_go_stay step) le14 goes λ le15.
            then_added n (instruction.Jump top) _ d15 d16 d17 le15 back λ le16.
            places n out d16 d17 out_waits from_out end
