-- Many instructions at once, over operands that take no memory.
use Rattle.std.proofs.Common.{◌≡◌, ℕ, ◌<◌, ◌≤◌, Bool, true, false, List, [], map, Result, Ok, Err, sym, ap, subst, arith}
use Rattle.std.specs.Prelude.{OnOk}
use Rattle.fx8.specs.declared.out_of_memory.OutOfMemory.{OutOfMemory}
use Rattle.mql_meaning.specs.Operands as meaning
use Rattle.mql_meaning.specs.Runs.{world}
use Rattle.store_frames.specs.declared.operand.Operand.{Operand}
use Rattle.store_frames.specs.Operands.{shown}
use Rattle.stack_code.specs.declared.code.Code.{Code}
use Rattle.stack_code.specs.Machine.{On}
use Rattle.stack_unboxed.specs.declared.unboxed.Unboxed.{Unboxed}
use Rattle.stack_unboxed.specs.Unboxed.{upon}
use Rattle.stack_machine.specs.declared.state.State.{State}
use Rattle.stack_machine.specs.Pace.{left}
use Rattle.stack_machine.specs.Quick.{topped, Same, Leads, Went, Hurried}
use Rattle.stack_machine.specs.Steps.{back, on}
use Rattle.stack_machine.proofs.Turns.{comes_on}

no_more : (a b bound : ℕ) → b < a → a ≤ bound → b ≤ bound
no_more a b bound h g = omega (arith, h, g)

pub falls_on : (a b bound : ℕ) → b < a → a ≤ bound → b < bound
falls_on a b bound h g = omega (arith, h, g)

module _ (code : Code) where
  leads_on : (s m t : State) (top mid end : List Unboxed) (n k l : ℕ) →
      Leads code s top n m mid k → Leads code m mid k t end l → Leads code s top n t end l
  leads_on s m t top mid end n k l f g = λ calls answers.
      comes_on code (f calls answers).instructions (topped s top n calls answers) (topped m mid k calls answers)
      (topped t end l calls answers) (f calls answers).is (g calls answers)

  -- one instruction more
  pub led_on : (b : Bool) (s m t : State) (top mid end : List Unboxed) (n k l : ℕ) → b ≡ true →
      Went code (Ok b) m mid k t end l → Leads code s top n m mid k → Leads code s top n t end l
  led_on b s m t top mid end n k l is w f =
      let went : Went code (Ok true) m mid k t end l = subst (λ (b : Bool). Went code (Ok b) m mid k t end l) is w in
      leads_on s m t top mid end n k l f went.0

  pub nearer_on : (b : Bool) (m t : State) (mid end : List Unboxed) (k l bound : ℕ) → b ≡ true →
      Went code (Ok b) m mid k t end l → left code (on m k [] []) ≤ bound → left code (on t l [] []) ≤ bound
  nearer_on b m t mid end k l bound is w h =
      let went : Went code (Ok true) m mid k t end l = subst (λ (b : Bool). Went code (Ok b) m mid k t end l) is w in
      no_more (left code (on m k [] [])) (left code (on t l [] [])) bound went.1 h

  -- nothing was done
  leads_same : (s m t : State) (top mid end : List Unboxed) (n k l : ℕ) →
      Leads code s top n m mid k → Same m mid k t end l → Leads code s top n t end l
  leads_same s m t top mid end n k l f e =
      subst (λ (x : State). Leads code s top n x end l) (sym e.0)
      (subst (λ (p : List Unboxed). Leads code s top n m p l) (sym e.1)
      (subst (λ (j : ℕ). Leads code s top n m mid j) (sym e.2) f))

  left_same : (m t : State) (mid end : List Unboxed) (k l bound : ℕ) →
      left code (on m k [] []) ≤ bound → Same m mid k t end l → left code (on t l [] []) ≤ bound
  left_same m t mid end k l bound h e =
      subst (λ (x : State). left code (on x l [] []) ≤ bound) (sym e.0)
      (subst (λ (j : ℕ). left code (on m j [] []) ≤ bound) (sym e.2) h)

  -- operands that take no memory are put on top of the machine's own
  own_alone : (s : State) (top : List Unboxed) (own : List Operand) (n : ℕ) →
      map shown own ≡ upon top (map shown s.operands) → Leads code s top n (record s { operands = own }) [] n
  own_alone s top own n e = λ calls answers. record {
    instructions = 0;
    is = ap (λ (ops : List meaning.Operand). On s.function s.place ops (map back s.backs) n (world s.store calls answers)) (sym e);
  }

  pub hurried : (r : Result (Unit {0}) OutOfMemory) (b : Bool) (s m t : State) (start top mid end : List Unboxed)
      (own : List Operand) (n k l : ℕ) → b ≡ false → start ≡ [] → Leads code s start n m top k →
      left code (on m k [] []) ≤ left code (on s n [] []) → Went code (Ok b) m top k t mid l →
      OnOk r ((end ≡ []) × (map shown own ≡ upon mid (map shown t.operands))) →
      Hurried r code s n (record t { operands = own }) end l
  hurried (Err e) b s m t start top mid end own n k l is empty leads nearer w o = tt
  hurried (Ok u) b s m t start top mid end own n k l is empty leads nearer w o =
      let same : Same m top k t mid l = subst (λ (b : Bool). Went code (Ok b) m top k t mid l) is w in (
        leads_on s t (record t { operands = own }) [] mid [] n l l
            (leads_same s m t [] top mid n k l (subst (λ (p : List Unboxed). Leads code s p n m top k) empty leads) same)
            (own_alone t mid own l o.1),
        o.0,
        left_same m t top mid k l (left code (on s n [] [])) nearer same,
      )
