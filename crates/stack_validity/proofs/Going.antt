-- A running machine that fits its code goes on so, or ends and is not stuck.
use Rattle.std.proofs.Common.{◌≡◌, ℕ, zero, suc, ◌+◌, Bool, true, false, not, List, [], ◌∷◌, Option, Some, None, refl, sym, ap, ◌∙◌, subst}
use Rattle.std.specs.Prelude.{slice_get, is_some}
use Rattle.fx8.specs.declared.int_kind.IntKind.TheVariants as kind
use Rattle.mql_mean.specs.declared.value.Value.{Value}
use Rattle.natives.specs.declared.native.Native.{Native}
use Rattle.natives.specs.declared.signature.ResultType.{ResultType}
use Rattle.natives.specs.declared.signature.ResultType.TheVariants as results
use Rattle.natives.specs.Signatures.{signature}
use Rattle.mql_meaning.specs.declared.store.Store.{Store}
use Rattle.mql_meaning.specs.declared.types.Sort.TheVariants as sort
use Rattle.mql_meaning.specs.declared.types.VarType.{VarType}
use Rattle.mql_meaning.specs.Changes.{Out, Done, Over, Change, then_some}
use Rattle.mql_meaning.specs.Runs.{World, world, Res, Go, End, in_run, change}
use Rattle.mql_meaning.specs.Operands.{Operand, Val, a_value, on_one}
use Rattle.mql_meaning.specs.Frames.{enter}
use Rattle.mql_meaning.specs.Natives.{void_value}
use Rattle.mql_meaning.specs.Calls.{is_nothing, native_void, calls_native}
use Rattle.mql_meaning.specs.Dispatch.{condition}
use Rattle.stack_code.specs.declared.code.Code.{Code}
use Rattle.stack_code.specs.declared.code.FunctionCode.{FunctionCode}
use Rattle.stack_code.specs.declared.code.OperandType.{OperandType}
use Rattle.stack_code.specs.declared.code.Effect.{Effect}
use Rattle.stack_code.specs.declared.code.Instruction.{Instruction}
use Rattle.stack_code.specs.declared.code.Instruction.TheVariants as instruction
use Rattle.stack_code.specs.Machine.{Back, Next, On, Halt, land, Taken, beside, taking, does_effect, function_at, locals_of, fetch, label_at, goes, branch, upon, stepped, head_of, arguments_of, calls, goes_back, returned, returns, tests, asks, act, advance, advances}
use Rattle.stack_validity.specs.Types.{ValueOf}
use Rattle.stack_validity.specs.Fits.{OperandOf, OperandsOf, StoreFits, Leaves, Safe}
use Rattle.stack_validity.specs.Rules.{Kinds, OneKind, Suits, Taking, Passes, with_result, GivesResult, simple_sort, JumpRule, CallRule, NativeRule, PlainRule, Leads}
use Rattle.stack_validity.specs.Valid.{Typed}
use Rattle.stack_validity.specs.Running.{Waits, Running, Runs}
use Rattle.stack_validity.proofs.Stores.{give_safe, then_safe}
use Rattle.stack_validity.proofs.Computing.{value_sort, holds_safe}
use Rattle.stack_validity.proofs.Operating.{value_safe, one_safe, ArgumentsOf, of_type}
use Rattle.stack_validity.proofs.Effects.{taking_safe, effect_safe}
use Rattle.stack_validity.proofs.Calling.{reset_safe, leave_safe, enter_safe}
use Rattle.stack_validity.proofs.Talking.{Comes, fault_sound}
use Rattle.stack_validity.proofs.Natives.{SortOf}
use Rattle.stack_validity.proofs.Lending.{native_does}

module _ (code : Code) (kinds : Kinds) (valid : Typed code kinds) (AtEnd : Store → Type 0) (to_end : (calls : List FunctionCode) (store : Store) → StoreFits code calls store → AtEnd store) where
  abbrev Good : Next → Type 0
  Good x = Runs code kinds AtEnd x

  -- where a result leads
  landed : {A : Type 0} (J : Store → Type 0) (P : A → Type 0) (r : Res A) (to : A → ℕ → World → Next) → Comes AtEnd J P r → ((a : A) (n : ℕ) (w : World) → P a → J w.store → Good (to a n w)) → Good (land r to)
  landed J P (Go a n w) to h k = k a n w h.0 h.1
  landed J P (End e n w) to h k = h

  pub changed_lands : {A : Type 0} (I J : Store → Type 0) (P : A → Type 0) (f : Change A) (n : ℕ) (w : World) (to : A → ℕ → World → Next) → Safe AtEnd I J P f → I w.store → ((a : A) (n : ℕ) (w : World) → P a → J w.store → Good (to a n w)) → Good (land (change f n w) to)
  unfolding change
  changed_lands I J P f n w to s h k = by_out (f w.store) (s.from w.store h)
    where
      by_out : (o : Out _) → Leaves AtEnd J P o → Good (land (in_run o n w) to)
      by_out (Done a store) h = k a n (world store w.calls w.answers) h.0 h.1
      by_out (Over e store) h = (fault_sound e h.0, h.1)

  -- in a call of a function
  module _ (k : ℕ) (c : FunctionCode) (there : function_at code k ≡ Some c) (callers : List FunctionCode) (backs : List Back) where
    abbrev Fit : Store → Type 0
    Fit = StoreFits code (c ∷ callers)

    abbrev Rest : List Operand → Type 0
    Rest ops = Waits code kinds backs callers c.result ops

    abbrev Left : List OperandType → List Operand → Type 0
    Left ks ops = OperandsOf code (c ∷ callers) Rest ks ops

    ends_here : (store : Store) → Fit store → AtEnd store
    ends_here store h = to_end (c ∷ callers) store h

    -- the function goes on
    on : (place : ℕ) (ks : List OperandType) (ops : List Operand) (store : Store) → kinds k place ≡ Some ks → Left ks ops → Fit store → Running code kinds k place ops backs store
    on place ks ops store e h g = record { function = c; there = there; callers = callers; known = ks; here = e; operands = h; fits = g }

    jumps : (label : ℕ) (ks : List OperandType) (ops : List Operand) (n : ℕ) (w : World) → JumpRule code kinds k label ks → Left ks ops → Fit w.store → Good (goes (label_at code k label) k ops backs n w)
    jumps label ks ops n w r h g = subst (λ o. Good (goes o k ops backs n w)) (sym r.there) (on r.to ks ops w.store r.same h g)

    plain : (e : Effect) (place : ℕ) (ks : List OperandType) (ops : List Operand) (n : ℕ) (w : World) → PlainRule code c kinds e k (place + 1) ks → Left ks ops → Fit w.store
        → Good (land (change (does_effect code (locals_of (function_at code k)) e ops) n w) (λ ops. On k (place + 1) ops backs))
    plain e place ks ops n w r h g =
        subst (λ o. Good (land (change (does_effect code (locals_of o) e ops) n w) (λ ops. On k (place + 1) ops backs))) (sym there)
        (changed_lands Fit Fit (Left r.after) (does_effect code c.locals e ops) n w (λ ops. On k (place + 1) ops backs)
        (effect_safe code AtEnd c callers ends_here
        (λ a b r. reset_safe code valid.nesting AtEnd c callers (valid.functions k c there).locals ends_here a b r)
        Rest e ks r.after ops r.changes h)
        g (λ ops n w h g. on (place + 1) r.after ops w.store r.goes_on h g))

    condition_safe : (ks : List OperandType) (xs : List Operand) → OneKind (Suits (sort.Number kind.Bool)) ks → ArgumentsOf code AtEnd (c ∷ callers) ends_here ks xs → Safe AtEnd Fit Fit (λ _. Unit {0}) (on_one condition xs)
    condition_safe ks xs r h =
        one_safe code AtEnd (c ∷ callers) ends_here condition ks xs r h (λ k x r h.
        then_safe code AtEnd (value_safe code AtEnd (c ∷ callers) ends_here k x r.of.value h) (λ v f.
        holds_safe code AtEnd Fit ends_here r.sort v r.suits (value_sort code.classes k.of r.sort v f r.of.sort)))

    -- a condition, and where it leads
    record Tested (label place : ℕ) (t : Taken Bool) : Type 0 where
      below : List OperandType
      operands : Left below t.rest
      next : kinds k (place + 1) ≡ Some below
      other : JumpRule code kinds k label below

    branches : (b : Bool) (x y : Next) → Good x → Good y → Good (branch b x y)
    branches true x y h g = h
    branches false x y h g = g

    unless : (label place : ℕ) (ks : List OperandType) (ops : List Operand) (n : ℕ) (w : World)
        → Taking 1 ks [] (λ xs rest. OneKind (Suits (sort.Number kind.Bool)) xs × (kinds k (place + 1) ≡ Some rest) × JumpRule code kinds k label rest)
        → Left ks ops → Fit w.store → Good (tests code label k place ops backs n w)
    unless label place ks ops n w r h g =
        changed_lands Fit Fit (Tested label place) _ n w _
        (then_safe code AtEnd (taking_safe code AtEnd c callers ends_here (λ xs rest. OneKind (Suits (sort.Number kind.Bool)) xs × (kinds k (place + 1) ≡ Some rest) × JumpRule code kinds k label rest) Rest 1 ks ops r h) (λ t s.
        then_safe code AtEnd (condition_safe s.args t.it s.rule.0 s.taken) (λ b u.
        give_safe code AtEnd (beside b t.rest) (record { below = s.below; operands = s.left; next = s.rule.1; other = s.rule.2 }))))
        g (λ t n w s g. branches t.it (On k (place + 1) t.rest backs n w) (goes (label_at code k label) k t.rest backs n w)
        (on (place + 1) s.below t.rest w.store s.next s.operands g) (jumps label s.below t.rest n w s.other s.operands g))

    spends : (place : ℕ) (ks : List OperandType) (ops : List Operand) (n : ℕ) (w : World) → kinds k (place + 1) ≡ Some ks → Left ks ops → Fit w.store → Good (stepped n (On k (place + 1) ops backs) w)
    spends place ks ops zero w e h g = (tt, ends_here w.store g)
    spends place ks ops (suc n) w e h g = on (place + 1) ks ops w.store e h g

    -- a call: the callee stands at its beginning, and this call waits
    call : (f place : ℕ) (ks : List OperandType) (ops : List Operand) (n : ℕ) (w : World) → CallRule code kinds f k (place + 1) ks → Left ks ops → Fit w.store
        → Good (calls code.classes (function_at code f) f (record { function = k; place = place + 1 }) ops backs n w)
    call f place ks ops n w r h g =
        subst (λ o. Good (calls code.classes o f (record { function = k; place = place + 1 }) ops backs n w)) (sym r.there)
        (changed_lands Fit Fit _ (taking (arguments_of r.callee) ops) n w _
        (taking_safe code AtEnd c callers ends_here (λ xs rest. Passes r.callee.locals r.callee.lent xs × (kinds k (place + 1) ≡ Some (with_result r.callee.result rest))) Rest (arguments_of r.callee) ks ops r.passes h)
        g (λ t n w s g.
        changed_lands Fit (StoreFits code (r.callee ∷ c ∷ callers)) (λ _. Unit {0}) (enter code.classes (head_of r.callee) t.it) n w _
        (enter_safe code valid.nesting AtEnd (c ∷ callers) ends_here r.callee (valid.functions f r.callee r.there).locals s.args t.it r.function s.rule.0 s.taken)
        g (λ _ n w u g. record {
          function = r.callee;
          there = r.there;
          callers = c ∷ callers;
          known = [];
          here = (valid.functions f r.callee r.there).begins;
          operands = record { there = there; known = s.below; here = s.rule.1; operands = s.left };
          fits = g;
        })))

    -- a native function that asks the world
    given : (r : ResultType) (v : Value) (rest : List Operand) (args below after : List OperandType) → GivesResult r args below after → SortOf r args v → Left below rest → Left after (upon (not (is_nothing r)) v rest)
    given results.Void v rest args below after e o h = subst (λ ks. Left ks rest) (sym e) h
    given (results.Simple t) v rest args below after e o h =
        subst (λ ks. Left ks (Val v ∷ rest)) (sym e.above)
        ((e.rule.value, of_type code AtEnd (c ∷ callers) ends_here e.kind.of (simple_sort t) v e.rule.sort o), h)
    given results.Common v rest [] below after e o h = absurd e
    given results.Common v rest (k ∷ args) below after e o h =
        subst (λ ks. Left ks (Val v ∷ rest)) (sym e.above)
        ((e.rule.result.value, of_type code AtEnd (c ∷ callers) ends_here e.kind.of e.rule.sort v e.rule.result.sort (o e.rule.sort e.rule.first.sort)), h)
    given results.Pointer v rest args below after e o h = absurd e

    native : (f : Native) (m place : ℕ) (ks : List OperandType) (ops : List Operand) (n : ℕ) (w : World) → Taking m ks [] (λ xs rest. NativeRule code kinds f k (place + 1) xs rest) → Left ks ops → Fit w.store → Good (asks f m k place ops backs n w)
    native f m place ks ops n w r h g =
        changed_lands Fit Fit _ (taking m ops) n w _
        (taking_safe code AtEnd c callers ends_here (λ xs rest. NativeRule code kinds f k (place + 1) xs rest) Rest m ks ops r h)
        g (λ t n w s g.
        landed Fit (SortOf (signature f).result s.args) (calls_native f t.it n w) _
        ((native_does code AtEnd (c ∷ callers) ends_here f s.args t.it s.rule.answered s.taken).from n w g)
        (λ v n w o g. on (place + 1) s.rule.after (upon (not (native_void f)) v t.rest) w.store s.rule.goes_on
        (given (signature f).result v t.rest s.args s.below s.rule.after s.rule.gives o s.left) g))

    -- a function gives a value, or none
    abbrev GivesBack : Option VarType → Value → Type 0
    GivesBack None v = Unit {0}
    GivesBack (Some t) v = ValueOf code.classes t v

    record Given (t : Taken Value) : Type 0 where
      value : GivesBack c.result t.it
      operands : Rest t.rest

    returned_safe : (o : Option VarType) (ks : List OperandType) (ops : List Operand) → ks ≡ with_result o [] → Left ks ops → Safe AtEnd Fit Fit (λ (t : Taken Value). GivesBack o t.it × Rest t.rest) (returned (is_some o) ops)
    returned_safe None ks ops e h = give_safe code AtEnd (beside void_value ops) (tt, subst (λ ks. Left ks ops) e h)
    returned_safe (Some t) ks ops e h =
        then_safe code AtEnd (taking_safe code AtEnd c callers ends_here (λ xs rest. (xs ≡ record { of = t; place = false } ∷ []) × (rest ≡ [])) Rest 1 ks ops
        (subst (λ ks. Taking 1 ks [] (λ xs rest. (xs ≡ record { of = t; place = false } ∷ []) × (rest ≡ []))) (sym e) (refl, refl)) h) (λ x s.
        then_safe code AtEnd (value_on t s.args x.it s.rule.0 s.taken) (λ v f.
        give_safe code AtEnd (beside v x.rest) (f, subst (λ ks. Left ks x.rest) s.rule.1 s.left)))
      where
        value_on : (t : VarType) (ks : List OperandType) (xs : List Operand) → ks ≡ record { of = t; place = false } ∷ [] → ArgumentsOf code AtEnd (c ∷ callers) ends_here ks xs → Safe AtEnd Fit Fit (ValueOf code.classes t) (on_one a_value xs)
        value_on t ks xs e h =
            one_safe code AtEnd (c ∷ callers) ends_here {P = λ k. k ≡ record { of = t; place = false }} {Q = ValueOf code.classes t} a_value ks xs
            (subst (OneKind (λ k. k ≡ record { of = t; place = false })) (sym e) refl) h
            (λ k x e h. value_safe code AtEnd (c ∷ callers) ends_here (record { of = t; place = false }) x refl (subst (λ k. OperandOf code (c ∷ callers) k x) e h))

    -- the caller goes on
    back_on : (o : Option VarType) (bs : List Back) (v : Value) (ops : List Operand) (n : ℕ) (w : World) → GivesBack o v → Waits code kinds bs callers o ops → StoreFits code callers w.store → Good (goes_back bs (is_some o) v ops n w)
    back_on o [] v ops n w q h g = (tt, to_end callers w.store g)
    back_on o (b ∷ bs) v ops n w q h g = by_callers callers h g
      where
        upon_it : (o : Option VarType) (d : FunctionCode) (ds : List FunctionCode) (ks : List OperandType) (R : List Operand → Type 0) → GivesBack o v → OperandsOf code (d ∷ ds) R ks ops → OperandsOf code (d ∷ ds) R (with_result o ks) (upon (is_some o) v ops)
        upon_it None d ds ks R q h = h
        upon_it (Some t) d ds ks R q h = ((refl, q), h)

        by_callers : (cs : List FunctionCode) → Waits code kinds (b ∷ bs) cs o ops → StoreFits code cs w.store → Running code kinds b.function b.place (upon (is_some o) v ops) bs w.store
        by_callers [] h g = absurd h
        by_callers (d ∷ ds) h g = record {
          function = d;
          there = h.there;
          callers = ds;
          known = with_result o h.known;
          here = h.here;
          operands = upon_it o d ds h.known (Waits code kinds bs ds d.result) q h.operands;
          fits = g;
        }

    gives_back : (ks : List OperandType) (ops : List Operand) (n : ℕ) (w : World) → ks ≡ with_result c.result [] → Left ks ops → Fit w.store → Good (returns (function_at code k) ops backs n w)
    gives_back ks ops n w e h g =
        subst (λ o. Good (returns o ops backs n w)) (sym there)
        (changed_lands Fit (StoreFits code callers) (λ (t : Taken Value). GivesBack c.result t.it × Rest t.rest) _ n w _
        (then_safe code AtEnd (returned_safe c.result ks ops e h) (λ t s.
        then_safe code AtEnd (leave_safe code valid.nesting AtEnd c callers (valid.functions k c there).locals ends_here) (λ _ u.
        give_safe code AtEnd t s)))
        g (λ t n w s g. back_on c.result backs t.it t.rest n w s.0 s.1 g))

    -- one instruction
    acts : (i : Instruction) (place : ℕ) (ks : List OperandType) (ops : List Operand) (n : ℕ) (w : World) → Leads code kinds k c place i ks → Left ks ops → Fit w.store → Good (act code (Some i) k place ops backs n w)
    acts (instruction.Plain e) place ks ops n w r h g = plain e place ks ops n w r h g
    acts (instruction.Jump label) place ks ops n w r h g = jumps label ks ops n w r h g
    acts (instruction.Unless label) place ks ops n w r h g = unless label place ks ops n w r h g
    acts instruction.Step place ks ops n w r h g = spends place ks ops n w r h g
    acts (instruction.Call f) place ks ops n w r h g = call f place ks ops n w r h g
    acts (instruction.Native f m) place ks ops n w r h g = native f m place ks ops n w r h g
    acts instruction.Return place ks ops n w r h g = gives_back ks ops n w r h g

  -- what the machine does next keeps it fitting
  pub goes_on : (x : Next) → Good x → Good (advance code x)
  goes_on (On k place ops backs n w) h =
      let f = (valid.functions k h.function h.there).fine place h.known h.here in
      let at : fetch code k place ≡ Some f.instruction = ap (λ o. then_some o (λ (c : FunctionCode). slice_get c.instructions place)) h.there ∙ f.there in
      subst (λ o. Good (act code o k place ops backs n w)) (sym at) (acts k h.function h.there h.callers backs f.instruction place h.known ops n w f.leads h.operands h.fits)
  goes_on (Halt e n w) h = h

  pub all_go_on : (j : ℕ) (x : Next) → Good x → Good (advances code j x)
  all_go_on zero x h = h
  all_go_on (suc j) x h = all_go_on j (advance code x) (goes_on x h)
