-- Where instructions lead the machine that ask the world nothing.
use Rattle.std.proofs.Common.{◌≡◌, ℕ, ◌+◌, Bool, true, false, List, [], ◌∷◌, map, Option, Some, Result, Ok, Err, refl, sym, ap, ◌∙◌, subst}
use Rattle.std.specs.Prelude.{is_some, length, nat_lt}
use Rattle.mql_mean.specs.declared.value.Value.{Value}
use Rattle.mql_mean.specs.declared.error.ErrorKind.TheVariants.{StackOverflow}
use Rattle.mql_mean.specs.declared.host.HostCall.{HostCall}
use Rattle.mql_mean.specs.Answer.{Answer}
use Rattle.mql_meaning.specs.declared.store.Store.{Store}
use Rattle.mql_meaning.specs.declared.tree.Class.{Class}
use Rattle.mql_meaning.specs.declared.tree.Function.{Function}
use Rattle.mql_meaning.specs.declared.types.VarType.{VarType}
use Rattle.mql_meaning.specs.Changes.{Change, ◌>>=◌, Out, Ended, Stuck, Done, Over, after, give, must}
use Rattle.mql_meaning.specs.Runs.{World, world, in_run, change}
use Rattle.mql_meaning.specs.Operands as meaning
use Rattle.mql_meaning.specs.Frames.{enter, enter_by, leave}
use Rattle.store_cells.specs.declared.fault.End as ends
use Rattle.store_cells.specs.declared.fault.End.TheVariants as change_end
use Rattle.store_cells.specs.declared.fault.Fault as changes
use Rattle.store_cells.specs.declared.fault.Fault.TheVariants as change_fault
use Rattle.store_cells.specs.Changes.{ended, Meets}
use Rattle.store_frames.specs.declared.operand.Operand.{Operand}
use Rattle.store_frames.specs.Operands.{shown}
use Rattle.stack_code.specs.declared.code.Code.{Code}
use Rattle.stack_code.specs.declared.code.Effect.{Effect}
use Rattle.stack_code.specs.declared.code.FunctionCode.{FunctionCode}
use Rattle.stack_code.specs.declared.code.Instruction.TheVariants as op
use Rattle.stack_code.specs.Machine as machine
use Rattle.stack_code.specs.Machine.{Next, On, Halt, land, act, does_effect, locals_of, function_at, starts, calls, goes_back, returned, returns, head_of, Taken, beside, taking, arguments_of, branch, goes, label_at, tests}
use Rattle.stack_effects.specs.Works.{Works}
use Rattle.stack_machine.specs.declared.ends.Fault.{Fault}
use Rattle.stack_machine.specs.declared.ends.Fault.TheVariants as fault
use Rattle.stack_machine.specs.declared.state.Back.{Back}
use Rattle.stack_machine.specs.declared.state.State.{State}
use Rattle.stack_machine.specs.Ends.{as_ended, by_change, faulted}
use Rattle.stack_machine.specs.Operands.{Takes, tested}
use Rattle.stack_machine.specs.Steps.{Reach, back, bare, over}

module _ {A : Type 0} (f : Change A) (store store' : Store) (go : A → ℕ → World → Next) (n : ℕ) (calls : List HostCall) (answers : List Answer) where
  -- a change that is done, and one that ends the run
  pub lands : (a : A) → f store ≡ Done a store' → land (change f n (world store calls answers)) go ≡ go a n (world store' calls answers)
  unfolding change
  lands a e = ap (λ (o : Out A). land (in_run o n (world store calls answers)) go) e

  pub ends_so : (why : Ended) → f store ≡ Over why store' → land (change f n (world store calls answers)) go ≡ over why store' n calls answers
  unfolding change
  ends_so why e = ap (λ (o : Out A). land (in_run o n (world store calls answers)) go) e

-- the end of a change as the machine's
pub told : (e : ends.End) → ended e ≡ as_ended (by_change e)
told (change_end.Failed e) = refl
told change_end.Stuck = refl

module _ (code : Code) (s : State) (n : ℕ) (calls : List HostCall) (answers : List Answer) where
  -- an effect, in a function with these locals
  module _ (e : Effect) (ts : List VarType) (same : ts ≡ locals_of (function_at code s.function)) where
    pub effect_done : (ops : List Operand) (store' : Store) (u : Unit {0}) →
        Works (does_effect code ts e) (Ok u) s.operands ops s.store store' →
        act code (Some (op.Plain e)) s.function s.place (map shown s.operands) (map back s.backs) n (world s.store calls answers)
        ≡ On s.function (s.place + 1) (map shown ops) (map back s.backs) n (world store' calls answers)
    effect_done ops store' u d =
        ap (λ (ts : List VarType). land (change (does_effect code ts e (map shown s.operands)) n (world s.store calls answers)) (λ ops. On s.function (s.place + 1) ops (map back s.backs))) (sym same)
        ∙ lands (does_effect code ts e (map shown s.operands)) s.store store' (λ ops. On s.function (s.place + 1) ops (map back s.backs)) n calls answers (map shown ops) d

    pub effect_fails : (why : changes.Fault) (ops : List Operand) (s' : State) →
        Works (does_effect code ts e) (Err why) s.operands ops s.store s'.store →
        Reach {A = Unit {0}} (Err (faulted why)) s' n calls answers
        (act code (Some (op.Plain e)) s.function s.place (map shown s.operands) (map back s.backs) n (world s.store calls answers))
    effect_fails (change_fault.End x) ops s' d =
        ap (λ (ts : List VarType). land (change (does_effect code ts e (map shown s.operands)) n (world s.store calls answers)) (λ ops. On s.function (s.place + 1) ops (map back s.backs))) (sym same)
        ∙ ends_so (does_effect code ts e (map shown s.operands)) s.store s'.store (λ ops. On s.function (s.place + 1) ops (map back s.backs)) n calls answers (ended x) d
        ∙ ap (λ (w : Ended). over w s'.store n calls answers) (told x)
    effect_fails change_fault.OutOfMemory ops s' d = tt

  -- a condition
  pub tested_so : (label : ℕ) (holds : Bool) (ops : List Operand) →
      ((store : Store) → tested (map shown s.operands) store ≡ Done (beside holds (map shown ops)) store) →
      act code (Some (op.Unless label)) s.function s.place (map shown s.operands) (map back s.backs) n (world s.store calls answers)
      ≡ branch holds (On s.function (s.place + 1) (map shown ops) (map back s.backs) n (world s.store calls answers))
      (goes (label_at code s.function label) s.function (map shown ops) (map back s.backs) n (world s.store calls answers))
  tested_so label holds ops d = lands (tested (map shown s.operands)) s.store s.store (λ t n w. branch t.it (On s.function (s.place + 1) t.rest (map back s.backs) n w) (goes (label_at code s.function label) s.function t.rest (map back s.backs) n w)) n calls answers (beside holds (map shown ops)) (d s.store)

  -- a condition that holds, and one that does not
  pub holds_so : (label : ℕ) (holds : Bool) (ops : List Operand) →
      ((store : Store) → tested (map shown s.operands) store ≡ Done (beside holds (map shown ops)) store) → holds ≡ true →
      act code (Some (op.Unless label)) s.function s.place (map shown s.operands) (map back s.backs) n (world s.store calls answers)
      ≡ On s.function (s.place + 1) (map shown ops) (map back s.backs) n (world s.store calls answers)
  holds_so label holds ops d t =
      tested_so label holds ops d
      ∙ ap (λ (b : Bool). branch b (On s.function (s.place + 1) (map shown ops) (map back s.backs) n (world s.store calls answers)) (goes (label_at code s.function label) s.function (map shown ops) (map back s.backs) n (world s.store calls answers))) t

  pub fails_so : {A : Type 0} (r : Result A Fault) (s' : State) (label : ℕ) (holds : Bool) (ops : List Operand) →
      ((store : Store) → tested (map shown s.operands) store ≡ Done (beside holds (map shown ops)) store) → holds ≡ false →
      Reach r s' n calls answers (goes (label_at code s.function label) s.function (map shown ops) (map back s.backs) n (world s.store calls answers)) →
      Reach r s' n calls answers
      (act code (Some (op.Unless label)) s.function s.place (map shown s.operands) (map back s.backs) n (world s.store calls answers))
  fails_so r s' label holds ops d t h =
      subst (Reach r s' n calls answers)
      (sym (tested_so label holds ops d
      ∙ ap (λ (b : Bool). branch b (On s.function (s.place + 1) (map shown ops) (map back s.backs) n (world s.store calls answers)) (goes (label_at code s.function label) s.function (map shown ops) (map back s.backs) n (world s.store calls answers))) t))
      h

  pub no_condition : (label : ℕ) →
      ((store : Store) → tested (map shown s.operands) store ≡ Over Stuck store) →
      act code (Some (op.Unless label)) s.function s.place (map shown s.operands) (map back s.backs) n (world s.store calls answers)
      ≡ over Stuck s.store n calls answers
  no_condition label d = ends_so (tested (map shown s.operands)) s.store s.store (λ t n w. branch t.it (On s.function (s.place + 1) t.rest (map back s.backs) n w) (goes (label_at code s.function label) s.function t.rest (map back s.backs) n w)) n calls answers Stuck (d s.store)

-- where a call returns to
abbrev pub after_call : State → machine.Back
after_call s = record { function = s.function; place = s.place + 1 }

-- a call looks at no name, result or body of a function
by_bare : (b : Bool) (classes : List Class) (c : FunctionCode) (xs : List meaning.Operand) (store : Store) →
    enter_by b classes (head_of c) xs store ≡ enter_by b classes (bare c) xs store
by_bare true classes c [] store = refl
by_bare true classes c (meaning.At p ∷ xs) store = refl
by_bare true classes c (meaning.Val v ∷ xs) store = refl
by_bare false classes c xs store = refl

after_must : (o : Out (Unit {0})) (f g : Change (Unit {0})) → ((store : Store) → f store ≡ g store) →
    after o (λ _. f) ≡ after o (λ _. g)
after_must (Done a store) f g e = e store
after_must (Over why store) f g e = refl

pub enter_head : (classes : List Class) (c : FunctionCode) (xs : List meaning.Operand) (store : Store) →
    enter classes (head_of c) xs store ≡ enter classes (bare c) xs store
enter_head classes c xs store =
    after_must (must (nat_lt (length store.frames) 1024) StackOverflow store)
    (enter_by (is_some c.class) classes (head_of c) xs) (enter_by (is_some c.class) classes (bare c) xs)
    (by_bare (is_some c.class) classes c xs)

module _ (code : Code) (k : ℕ) (c : FunctionCode) (there : function_at code k ≡ Some c) (n : ℕ) (calls' : List HostCall) (answers : List Answer) where
  -- a function that begins
  begins_so : (xs ops : List meaning.Operand) (backs : List machine.Back) (w : World) →
      starts code.classes (function_at code k) k xs ops backs n w
      ≡ land (change (enter code.classes (head_of c) xs) n w) (λ _. On k 0 ops backs)
  begins_so xs ops backs w = ap (λ (o : Option FunctionCode). starts code.classes o k xs ops backs n w) there

  -- the classes and the head that are given to a call
  module _ (cs : List Class) (f : Function) (classes_same : cs ≡ code.classes) (head_same : f ≡ bare c) (xs ops : List meaning.Operand) (backs : List machine.Back) (store : Store) where
    entered : enter code.classes (head_of c) xs store ≡ enter cs f xs store
    entered =
        enter_head code.classes c xs store
        ∙ ap (λ (cs : List Class). enter cs (bare c) xs store) (sym classes_same)
        ∙ ap (λ (f : Function). enter cs f xs store) (sym head_same)

    pub started : (store' : Store) (u : Unit {0}) → enter cs f xs store ≡ Done u store' →
        starts code.classes (function_at code k) k xs ops backs n (world store calls' answers)
        ≡ On k 0 ops backs n (world store' calls' answers)
    started store' u d =
        begins_so xs ops backs (world store calls' answers)
        ∙ lands (enter code.classes (head_of c) xs) store store' (λ _. On k 0 ops backs) n calls' answers u (entered ∙ d)

    pub not_started : (why : changes.Fault) (s' : State) → Meets (enter cs f xs) (Err why) store s'.store →
        Reach {A = Unit {0}} (Err (faulted why)) s' n calls' answers
        (starts code.classes (function_at code k) k xs ops backs n (world store calls' answers))
    not_started (change_fault.End x) s' d =
        begins_so xs ops backs (world store calls' answers)
        ∙ ends_so (enter code.classes (head_of c) xs) store s'.store (λ _. On k 0 ops backs) n calls' answers (ended x) (entered ∙ d)
        ∙ ap (λ (w : Ended). over w s'.store n calls' answers) (told x)
    not_started change_fault.OutOfMemory s' d = tt

  -- a call
  module _ (s : State) (count : ℕ) (count_same : count ≡ arguments_of c) where
    takes_so : act code (Some (op.Call k)) s.function s.place (map shown s.operands) (map back s.backs) n (world s.store calls' answers)
        ≡ land (change (taking count (map shown s.operands)) n (world s.store calls' answers))
        (λ t. starts code.classes (Some c) k t.it t.rest (after_call s ∷ map back s.backs))
    takes_so = ap (λ (o : Option FunctionCode). calls code.classes o k (after_call s) (map shown s.operands) (map back s.backs) n (world s.store calls' answers)) there
        ∙ ap (λ (m : ℕ). land (change (taking m (map shown s.operands)) n (world s.store calls' answers)) (λ t. starts code.classes (Some c) k t.it t.rest (after_call s ∷ map back s.backs))) (sym count_same)

    pub called : {A : Type 0} (r : Result A Fault) (s' : State) (xs ops : List Operand) (b : Back) (bs : List Back) →
        ((store : Store) → taking count (map shown s.operands) store ≡ Done (beside (map shown xs) (map shown ops)) store) →
        back b ≡ after_call s → bs ≡ b ∷ s.backs →
        Reach r s' n calls' answers (starts code.classes (function_at code k) k (map shown xs) (map shown ops) (map back bs) n (world s.store calls' answers)) →
        Reach r s' n calls' answers
        (act code (Some (op.Call k)) s.function s.place (map shown s.operands) (map back s.backs) n (world s.store calls' answers))
    called r s' xs ops b bs d e f h =
        subst (Reach r s' n calls' answers)
        (sym (takes_so
        ∙ lands (taking count (map shown s.operands)) s.store s.store (λ t. starts code.classes (Some c) k t.it t.rest (after_call s ∷ map back s.backs)) n calls' answers (beside (map shown xs) (map shown ops)) (d s.store)
        ∙ ap (λ (o : Option FunctionCode). starts code.classes o k (map shown xs) (map shown ops) (after_call s ∷ map back s.backs) n (world s.store calls' answers)) (sym there)
        ∙ ap (λ (b : machine.Back). starts code.classes (function_at code k) k (map shown xs) (map shown ops) (b ∷ map back s.backs) n (world s.store calls' answers)) (sym e)
        ∙ ap (λ (bs : List Back). starts code.classes (function_at code k) k (map shown xs) (map shown ops) (map back bs) n (world s.store calls' answers)) (sym f)))
        h

    pub not_called : (why : Fault) (s' : State) (rest : List meaning.Operand) →
        Takes (Err why) (taking count (map shown s.operands)) rest → s'.store ≡ s.store →
        Reach {A = Unit {0}} (Err why) s' n calls' answers
        (act code (Some (op.Call k)) s.function s.place (map shown s.operands) (map back s.backs) n (world s.store calls' answers))
    not_called (fault.End e) s' rest d same =
        takes_so
        ∙ ends_so (taking count (map shown s.operands)) s.store s.store (λ t. starts code.classes (Some c) k t.it t.rest (after_call s ∷ map back s.backs)) n calls' answers (as_ended e) (d s.store)
        ∙ ap (λ (store : Store). over (as_ended e) store n calls' answers) (sym same)
    not_called fault.OutOfMemory s' rest d same = tt

-- a return
abbrev leaving : Bool → List meaning.Operand → Change (Taken Value)
leaving gives ops = returned gives ops >>= λ t. leave >>= λ _. give t

module _ (code : Code) (s : State) (c : FunctionCode) (there : function_at code s.function ≡ Some c) (gives : Bool) (gives_same : gives ≡ is_some c.result) (n : ℕ) (calls' : List HostCall) (answers : List Answer) where
  leaves_so : act code (Some op.Return) s.function s.place (map shown s.operands) (map back s.backs) n (world s.store calls' answers)
      ≡ land (change (leaving gives (map shown s.operands)) n (world s.store calls' answers)) (λ t. goes_back (map back s.backs) gives t.it t.rest)
  leaves_so = ap (λ (o : Option FunctionCode). returns o (map shown s.operands) (map back s.backs) n (world s.store calls' answers)) there
      ∙ ap (λ (b : Bool). land (change (leaving b (map shown s.operands)) n (world s.store calls' answers)) (λ t. goes_back (map back s.backs) b t.it t.rest)) (sym gives_same)

  pub returned_so : {A : Type 0} (r : Result A Fault) (s' : State) (v : Value) (ops : List Operand) (store' : Store) →
      ((store : Store) → returned gives (map shown s.operands) store ≡ Done (beside v (map shown ops)) store) →
      leave s.store ≡ Done tt store' →
      Reach r s' n calls' answers (goes_back (map back s.backs) gives v (map shown ops) n (world store' calls' answers)) →
      Reach r s' n calls' answers
      (act code (Some op.Return) s.function s.place (map shown s.operands) (map back s.backs) n (world s.store calls' answers))
  returned_so r s' v ops store' d e h =
      subst (Reach r s' n calls' answers)
      (sym (leaves_so
      ∙ lands (leaving gives (map shown s.operands)) s.store store' (λ t. goes_back (map back s.backs) gives t.it t.rest) n calls' answers (beside v (map shown ops))
      (ap (λ (o : Out (Taken Value)). after o (λ t. leave >>= λ _. give t)) (d s.store)
      ∙ ap (λ (o : Out (Unit {0})). after o (λ _. give (beside v (map shown ops)))) e)))
      h

  pub nothing_returned : ((store : Store) → returned gives (map shown s.operands) store ≡ Over Stuck store) →
      act code (Some op.Return) s.function s.place (map shown s.operands) (map back s.backs) n (world s.store calls' answers)
      ≡ over Stuck s.store n calls' answers
  nothing_returned d =
      leaves_so
      ∙ ends_so (leaving gives (map shown s.operands)) s.store s.store (λ t. goes_back (map back s.backs) gives t.it t.rest) n calls' answers Stuck
      (ap (λ (o : Out (Taken Value)). after o (λ t. leave >>= λ _. give t)) (d s.store))
