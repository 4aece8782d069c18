-- Instructions over a world, and runs of them.
use Rattle.std.proofs.Common.{◌≡◌, ℕ, zero, suc, ◌+◌, Bool, List, [], ◌∷◌, ◌++◌, map, Option, Some, None, Result, Ok, Err, refl, sym, ap, ◌∙◌, subst, append-nil, append_assoc}
use Rattle.std.specs.Prelude.{not}
use Rattle.mql_mean.specs.declared.value.Value.{Value}
use Rattle.mql_mean.specs.declared.host.HostCall.{HostCall}
use Rattle.mql_mean.specs.Answer.{Answer}
use Rattle.natives.specs.declared.native.Native.{Native}
use Rattle.mql_meaning.specs.declared.store.Store.{Store}
use Rattle.mql_meaning.specs.Changes.{Ended, Stuck, Done}
use Rattle.mql_meaning.specs.Runs.{World, world, Res, change}
use Rattle.mql_meaning.specs.Operands as meaning
use Rattle.mql_meaning.specs.Calls.{native_void, calls_native}
use Rattle.store_frames.specs.declared.operand.Operand.{Operand}
use Rattle.store_frames.specs.Operands.{shown}
use Rattle.stack_code.specs.declared.code.Code.{Code}
use Rattle.stack_code.specs.declared.code.Instruction.{Instruction}
use Rattle.stack_code.specs.declared.code.Instruction.TheVariants as op
use Rattle.stack_code.specs.Machine.{Next, On, land, act, advance, advances, fetch, Comes, Taken, beside, taking, upon}
use Rattle.stack_world.specs.declared.halt.Halt as halts
use Rattle.stack_world.specs.declared.halt.Halt.TheVariants as halt
use Rattle.stack_world.specs.Turns.{Turns}
use Rattle.stack_world.specs.Acts as world_acts
use Rattle.stack_machine.specs.declared.ends.Fault.{Fault}
use Rattle.stack_machine.specs.declared.ends.Fault.TheVariants as fault
use Rattle.stack_machine.specs.declared.state.Back.{Back}
use Rattle.stack_machine.specs.declared.state.State.{State}
use Rattle.stack_machine.specs.Ends.{as_ended, halted}
use Rattle.stack_machine.specs.Operands.{Takes, Gave}
use Rattle.stack_machine.specs.Quick.{Leads}
use Rattle.stack_machine.specs.Steps.{Acts, Stepped, Steps, Run, back, on, over}
use Rattle.stack_machine.proofs.Lands.{lands, ends_so, told}

-- a run so far, and more instructions
pub comes_on : (code : Code) (j : ℕ) (x y z : Next) → advances code j x ≡ y → Comes code y z → Comes code x z
comes_on code zero x y z e c = subst (λ t. Comes code t z) (sym e) c
comes_on code (suc j) x y z e c = let r = comes_on code j (advance code x) y z e c in record { instructions = suc r.instructions; is = r.is }

module _ {W : Type 0} (may : W → HostCall → Answer → W → Type 0) (code : Code) where
  -- a step with no call
  silent : (s : State) (n : ℕ) (w : W) (to : List HostCall → List Answer → Next) → ((calls : List HostCall) (answers : List Answer) → advance code (on s n calls answers) ≡ to calls answers) → Stepped may code s n w w to
  silent s n w to e = record { made = []; got = []; turns = refl; holds = λ calls rest. e calls rest ∙ ap (λ (cs : List HostCall). to cs rest) (sym (append-nil calls)) }

  pub quiet_steps : {A : Type 0} (i : Instruction) (s s' : State) (n n' : ℕ) (w : W) (r : Result A Fault) → fetch code s.function s.place ≡ Some i → Acts code i s n r s' n' → Steps may code s n w r s' n' w
  quiet_steps i s s' n n' w (Ok a) f acts = silent s n w (on s' n') λ calls answers. ap (λ (o : Option Instruction). act code o s.function s.place (map shown s.operands) (map back s.backs) n (world s.store calls answers)) f ∙ acts calls answers
  quiet_steps i s s' n n' w (Err (fault.End e)) f acts = silent s n w (over (as_ended e) s'.store n') λ calls answers. ap (λ (o : Option Instruction). act code o s.function s.place (map shown s.operands) (map back s.backs) n (world s.store calls answers)) f ∙ acts calls answers
  quiet_steps i s s' n n' w (Err fault.OutOfMemory) f acts = tt

  pub no_instruction : (s : State) (n : ℕ) (w : W) → fetch code s.function s.place ≡ None → Stepped may code s n w w (over Stuck s.store n)
  no_instruction s n w f = silent s n w (over Stuck s.store n) λ calls answers. ap (λ (o : Option Instruction). act code o s.function s.place (map shown s.operands) (map back s.backs) n (world s.store calls answers)) f

  module _ (s : State) (n : ℕ) (w : W) (native : Native) (count : ℕ) (f : fetch code s.function s.place ≡ Some (op.Native native count)) where
    -- what follows the arguments, and the value
    abbrev valued : List meaning.Operand → Value → ℕ → World → Next
    valued rest v = On s.function (s.place + 1) (upon (not (native_void native)) v rest) (map back s.backs)

    abbrev asked : Taken (List meaning.Operand) → ℕ → World → Next
    asked t n w = land (calls_native native t.it n w) (valued t.rest)

    begun : (calls : List HostCall) (answers : List Answer) → advance code (on s n calls answers) ≡ land (change (taking count (map shown s.operands)) n (world s.store calls answers)) asked
    begun calls answers = ap (λ (o : Option Instruction). act code o s.function s.place (map shown s.operands) (map back s.backs) n (world s.store calls answers)) f

    pub not_taken : (why : Fault) (rest : List meaning.Operand) (s' : State) → Takes (Err why) (taking count (map shown s.operands)) rest → s'.store ≡ s.store → Steps {A = Unit {0}} may code s n w (Err why) s' n w
    not_taken (fault.End e) rest s' t same = silent s n w (over (as_ended e) s'.store n) λ calls answers.
        begun calls answers
        ∙ ends_so (taking count (map shown s.operands)) s.store s.store asked n calls answers (as_ended e) (t s.store)
        ∙ ap (λ (store : Store). over (as_ended e) store n calls answers) (sym same)
    not_taken fault.OutOfMemory rest s' t same = tt

    module _ (xs ops : List Operand) (t : (store : Store) → taking count (map shown s.operands) store ≡ Done (beside (map shown xs) (map shown ops)) store) where
      after_arguments : (calls : List HostCall) (answers : List Answer) → advance code (on s n calls answers) ≡ land (calls_native native (map shown xs) n (world s.store calls answers)) (valued (map shown ops))
      after_arguments calls answers = begun calls answers ∙ lands (taking count (map shown s.operands)) s.store s.store asked n calls answers (beside (map shown xs) (map shown ops)) (t s.store)

      -- the native function has a value
      pub valued_so : {A : Type 0} (w' : W) (v : Value) (s' : State) (r : Result A Fault) (b : Bool) → b ≡ native_void native →
          world_acts.Acts may (calls_native native (map shown xs)) (Ok v) n s.store s'.store w w' →
          Gave r (upon (not b) v (map shown ops)) (map shown s'.operands) →
          s'.function ≡ s.function → s'.place ≡ s.place + 1 → s'.backs ≡ s.backs → Steps may code s n w r s' n w'
      valued_so w' v s' (Ok a) b void acts g e1 e2 e3 = record {
        made = acts.made;
        got = acts.got;
        turns = acts.turns;
        holds = λ calls rest.
            after_arguments calls (acts.got ++ rest)
            ∙ ap (λ (res : Res Value). land res (valued (map shown ops))) (acts.holds calls rest)
            ∙ ap (λ (b : Bool). On s.function (s.place + 1) (upon (not b) v (map shown ops)) (map back s.backs) n (world s'.store (calls ++ acts.made) rest)) (sym void)
            ∙ ap (λ (os : List meaning.Operand). On s.function (s.place + 1) os (map back s.backs) n (world s'.store (calls ++ acts.made) rest)) (sym g)
            ∙ ap (λ (k : ℕ). On k (s.place + 1) (map shown s'.operands) (map back s.backs) n (world s'.store (calls ++ acts.made) rest)) (sym e1)
            ∙ ap (λ (k : ℕ). On s'.function k (map shown s'.operands) (map back s.backs) n (world s'.store (calls ++ acts.made) rest)) (sym e2)
            ∙ ap (λ (bs : List Back). On s'.function s'.place (map shown s'.operands) (map back bs) n (world s'.store (calls ++ acts.made) rest)) (sym e3);
      }
      valued_so w' v s' (Err (fault.End x)) b void acts g e1 e2 e3 = absurd g
      valued_so w' v s' (Err fault.OutOfMemory) b void acts g e1 e2 e3 = tt

      -- the native function ends the run
      pub halted_so : (w' : W) (why : halts.Halt) (s' : State) →
          world_acts.Acts {A = Value} may (calls_native native (map shown xs)) (Err why) n s.store s'.store w w' → Steps {A = Unit {0}} may code s n w (Err (halted why)) s' n w'
      halted_so w' (halt.End e) s' acts = record {
        made = acts.made;
        got = acts.got;
        turns = acts.turns;
        holds = λ calls rest.
            after_arguments calls (acts.got ++ rest)
            ∙ ap (λ (res : Res Value). land res (valued (map shown ops))) (acts.holds calls rest)
            ∙ ap (λ (x : Ended). over x s'.store n (calls ++ acts.made) rest) (told e);
      }
      halted_so w' halt.Stopped s' acts = record {
        made = acts.made;
        got = acts.got;
        turns = acts.turns;
        holds = λ calls rest.
            after_arguments calls (acts.got ++ rest)
            ∙ ap (λ (res : Res Value). land res (valued (map shown ops))) (acts.holds calls rest);
      }
      halted_so w' halt.OutOfMemory s' acts = tt

  turns_on : (w m w' : W) (cs : List HostCall) (vs : List Answer) (cs' : List HostCall) (vs' : List Answer) → Turns may w cs vs m → Turns may m cs' vs' w' → Turns may w (cs ++ cs') (vs ++ vs') w'
  turns_on w m w' [] [] cs' vs' t u = subst (λ k. Turns may k cs' vs' w') (sym t) u
  turns_on w m w' [] (v ∷ vs) cs' vs' t u = absurd t
  turns_on w m w' (c ∷ cs) [] cs' vs' t u = absurd t
  turns_on w m w' (c ∷ cs) (v ∷ vs) cs' vs' t u = (t.0, t.1, turns_on t.0 m w' cs vs cs' vs' t.2 u)

  pub run_on : (x : List Answer → Next) (w m w' : W) (s : State) (n : ℕ) (to : List HostCall → List Answer → Next) → Run may code x w m (on s n) → Stepped may code s n m w' to → Run may code x w w' to
  run_on x w m w' s n to r t = record {
    made = r.made ++ t.made;
    got = r.got ++ t.got;
    turns = turns_on w m w' r.made r.got t.made t.got r.turns t.turns;
    holds = λ rest. subst (λ l. Comes code (x l) (to (r.made ++ t.made) rest)) (sym (append_assoc r.got t.got rest)) (comes_on code (r.holds (t.got ++ rest)).instructions _ _ _ (r.holds (t.got ++ rest)).is (record { instructions = 1; is = t.holds r.made rest }));
  }

  -- some instructions with no call
  pub run_led : (x : List Answer → Next) (w w' : W) (s s' : State) (n n' : ℕ) → Run may code x w w' (on s n) → Leads code s [] n s' [] n' → Run may code x w w' (on s' n')
  run_led x w w' s s' n n' r led = record {
    made = r.made;
    got = r.got;
    turns = r.turns;
    holds = λ rest. comes_on code (r.holds rest).instructions (x (r.got ++ rest)) (on s n r.made rest) (on s' n' r.made rest) (r.holds rest).is (led r.made rest);
  }

  pub run_starts : (w : W) (s : State) (n : ℕ) → Run may code (λ answers. on s n [] answers) w w (on s n)
  run_starts w s n = record { made = []; got = []; turns = refl; holds = λ rest. record { instructions = 0; is = refl } }

  -- a run from what is the same state
  pub run_from : (x y : List Answer → Next) (w w' : W) (to : List HostCall → List Answer → Next) → ((answers : List Answer) → x answers ≡ y answers) → Run may code y w w' to → Run may code x w w' to
  run_from x y w w' to e r = record { made = r.made; got = r.got; turns = r.turns; holds = λ rest. subst (λ a. Comes code a (to r.made rest)) (sym (e (r.got ++ rest))) (r.holds rest) }

  -- a run that has ended at once
  pub run_over : (x : List Answer → Next) (w : W) (to : List HostCall → List Answer → Next) → ((answers : List Answer) → x answers ≡ to [] answers) → Run may code x w w to
  run_over x w to e = record { made = []; got = []; turns = refl; holds = λ rest. record { instructions = 0; is = e rest } }
