-- Each instruction of paced code brings the end nearer.
use Rattle.std.proofs.Common.{◌≡◌, ℕ, zero, suc, ◌+◌, ◌*◌, ◌<◌, ◌≤◌, Bool, true, false, List, [], ◌∷◌, map, Option, Some, None, Result, Ok, Err, refl, sym, ap, ◌∙◌, subst, arith, ⊎_elim}
use Rattle.std.specs.Prelude.{slice_get, is_some, not}
use Rattle.std.proofs.lemmas.Option.{slice_get_within}
use Rattle.std.proofs.Math.Nat.{suc-mul}
use Rattle.std.proofs.lemmas.Bool.{cases_lt}
use Rattle.mql_mean.specs.declared.value.Value.{Value}
use Rattle.mql_meaning.specs.Changes.{Change, ◌>>=◌, Out, Done, Over, then_some, give}
use Rattle.mql_meaning.specs.Runs.{World, world, Res, Go, End, in_run, change}
use Rattle.mql_meaning.specs.Operands as meaning
use Rattle.mql_meaning.specs.Calls.{calls_native, native_void}
use Rattle.mql_meaning.specs.Frames.{enter, leave}
use Rattle.store_frames.specs.Operands.{shown}
use Rattle.stack_code.specs.declared.code.Code.{Code}
use Rattle.stack_code.specs.declared.code.FunctionCode.{FunctionCode}
use Rattle.stack_code.specs.declared.code.Instruction.{Instruction}
use Rattle.stack_code.specs.declared.code.Instruction.TheVariants as op
use Rattle.stack_code.specs.Machine.{Back, Next, On, Halt, land, act, does_effect, locals_of, function_at, fetch, label_at, place_of, goes, branch, starts, calls, goes_back, returned, returns, head_of, Taken, taking, arguments_of, asks, upon}
use Rattle.stack_machine.specs.declared.ends.Fault.{Fault}
use Rattle.natives.specs.declared.native.Native.{Native}
use Rattle.stack_machine.specs.declared.state.Back as code_back
use Rattle.stack_machine.specs.declared.state.State.{State}
use Rattle.stack_machine.specs.Operands.{tested}
use Rattle.stack_code.specs.Paced.{Paced, jumps_to}
use Rattle.stack_machine.specs.Pace.{Nearer, total, behind, behind_all, is_step, rank, left}
use Rattle.stack_machine.proofs.Keeps.{Kept, calls_native_keeps}
use Rattle.stack_machine.specs.Steps as steps
use Rattle.stack_machine.specs.Steps.{Acts, Follows, on}

-- what a chain of look-ups found
abbrev IsNone : {A : Type 0} → Option A → Type 0
IsNone None = Unit {0}
IsNone (Some a) = ⊥

then_is : {A B : Type 0} (o : Option A) (f : A → Option B) (v : B) → then_some o f ≡ Some v → (a : A) × (o ≡ Some a) × (f a ≡ Some v)
then_is None f v e = absurd (subst (λ (o : Option _). IsNone o) e (tt {0}))
then_is (Some a) f v e = (a, refl, e)

in_total : (cs : List FunctionCode) (k place : ℕ) (i : Instruction) → then_some (slice_get cs k) (λ (c : FunctionCode). slice_get c.instructions place) ≡ Some i → place < total cs
in_total [] k place i e = absurd (subst (λ (o : Option Instruction). IsNone o) e (tt {0}))
in_total (c ∷ cs) zero place i e = let w = slice_get_within c.instructions place i e in omega (arith, w)
in_total (c ∷ cs) (suc k) place i e = let w = in_total cs k place i e in omega (arith, w)

rank_le : (b : Bool) (n width more : ℕ) → rank b n width more ≤ n * width + more
rank_le true zero width more = omega arith
rank_le true (suc m) width more = omega (arith, suc-mul m width)
rank_le false n width more = omega arith

rank_lt : (n width more bound : ℕ) → more < width + bound → 0 < bound → rank true n width more < n * width + bound
rank_lt zero width more bound lt positive = omega (arith, positive)
rank_lt (suc m) width more bound lt positive = omega (arith, lt, suc-mul m width)

module _ (code : Code) where
  abbrev longest : ℕ
  longest = total code.functions

  -- the bound at a place, where a step there is not counted as spent
  abbrev bound : ℕ → ℕ → List Back → ℕ
  bound n place backs = n * (longest + 2) + (behind longest place + behind_all longest backs)

  abbrev Below : ℕ → Next → Type 0
  Below m (On k place ops backs n w) = left code (On k place ops backs n w) < m
  Below m (Halt e n w) = Unit {0}

  out_below : {A : Type 0} (m : ℕ) (o : Out A) (n : ℕ) (w : World) (go : A → ℕ → World → Next) → ((a : A) (w : World) → Below m (go a n w)) → Below m (land (in_run o n w) go)
  out_below m (Done a store) n w go h = h a _
  out_below m (Over e store) n w go h = tt

  land_below : {A : Type 0} (m : ℕ) (f : Change A) (n : ℕ) (w : World) (go : A → ℕ → World → Next) → ((a : A) (w : World) → Below m (go a n w)) → Below m (land (change f n w) go)
  unfolding change
  land_below m f n w go h = out_below m (f w.store) n w go h

  -- one place on
  next_below : (k place n : ℕ) (ops : List meaning.Operand) (backs : List Back) (w : World) → place < longest → Below (bound n place backs) (On k (place + 1) ops backs n w)
  next_below k place n ops backs w lt =
      let r = rank_le (is_step (fetch code k (place + 1))) n (longest + 2) (behind longest (place + 1) + behind_all longest backs) in
      omega (arith, r, lt)

  -- a label ahead, or a step
  label_below : (k place to n : ℕ) (ops : List meaning.Operand) (backs : List Back) (w : World) → place < longest → (to ≤ place → fetch code k to ≡ Some op.Step) → Below (bound n place backs) (On k to ops backs n w)
  label_below k place to n ops backs w lt h =
      ⊎_elim
      (λ on. let r = rank_le (is_step (fetch code k to)) n (longest + 2) (behind longest to + behind_all longest backs) in omega (arith, r, on, lt))
      (λ le. subst (λ (o : Option Instruction). rank (is_step o) n (longest + 2) (behind longest to + behind_all longest backs) < bound n place backs) (sym (h le)) (rank_lt n (longest + 2) _ _ (omega (arith, lt)) (omega (arith, lt))))
      (cases_lt place to)

  -- a function that begins with a step
  begins_below : (k place n : ℕ) (ops : List meaning.Operand) (b : Back) (backs : List Back) (w : World) → place < longest → b.place ≡ place + 1 → fetch code k 0 ≡ Some op.Step → Below (bound n place backs) (On k 0 ops (b ∷ backs) n w)
  begins_below k place n ops b backs w lt e h = subst (λ (o : Option Instruction). rank (is_step o) n (longest + 2) (behind longest 0 + (behind longest b.place + behind_all longest backs)) < bound n place backs) (sym h) (rank_lt n (longest + 2) _ _ (omega (arith, lt, e)) (omega (arith, lt)))

  -- back in the caller
  back_below : (place n : ℕ) (ops : List meaning.Operand) (b : Back) (backs : List Back) (w : World) → place < longest → Below (bound n place (b ∷ backs)) (On b.function b.place ops backs n w)
  back_below place n ops b backs w lt =
      let r = rank_le (is_step (fetch code b.function b.place)) n (longest + 2) (behind longest b.place + behind_all longest backs) in
      omega (arith, r, lt)

  goes_back_below : (place n : ℕ) (gives : Bool) (v : Value) (ops : List meaning.Operand) (backs : List Back) (w : World) → place < longest → Below (bound n place backs) (goes_back backs gives v ops n w)
  goes_back_below place n gives v ops [] w lt = tt
  goes_back_below place n gives v ops (b ∷ backs) w lt = back_below place n (upon gives v ops) b backs w lt

  returns_below : (o : Option FunctionCode) (place n : ℕ) (ops : List meaning.Operand) (backs : List Back) (w : World) → place < longest → Below (bound n place backs) (returns o ops backs n w)
  returns_below None place n ops backs w lt = tt
  returns_below (Some c) place n ops backs w lt =
      land_below (bound n place backs) (returned (is_some c.result) ops >>= λ t. leave >>= λ _. give t) n w
      (λ (t : Taken Value). goes_back backs (is_some c.result) t.it t.rest)
      (λ (t : Taken Value) w. goes_back_below place n (is_some c.result) t.it t.rest backs w lt)

  -- a native function
  valued_below : (m : ℕ) (r : Res Value) (n : ℕ) (go : Value → ℕ → World → Next) → Kept n r → ((v : Value) (w : World) → Below m (go v n w)) → Below m (land r go)
  valued_below m (Go v j w) n go e h = subst (λ (j : ℕ). Below m (go v j w)) (sym e) (h v w)
  valued_below m (End x j w) n go e h = tt

  asks_below : (f : Native) (c k place n : ℕ) (ops : List meaning.Operand) (backs : List Back) (w : World) → place < longest → Below (bound n place backs) (asks f c k place ops backs n w)
  asks_below f c k place n ops backs w lt =
      land_below (bound n place backs) (taking c ops) n w
      (λ (t : Taken (List meaning.Operand)) n w. land (calls_native f t.it n w) (λ v. On k (place + 1) (upon (not (native_void f)) v t.rest) backs))
      (λ (t : Taken (List meaning.Operand)) w. valued_below (bound n place backs) (calls_native f t.it n w) n
      (λ v. On k (place + 1) (upon (not (native_void f)) v t.rest) backs) ((calls_native_keeps f t.it).is n w)
      (λ v w. next_below k place n (upon (not (native_void f)) v t.rest) backs w lt))

  module _ (paced : Paced code) where
    calls_below : (o : Option FunctionCode) (f place n : ℕ) (ops : List meaning.Operand) (b : Back) (backs : List Back) (w : World) → place < longest → b.place ≡ place + 1 → function_at code f ≡ o → Below (bound n place backs) (calls code.classes o f b ops backs n w)
    calls_below None f place n ops b backs w lt e there = tt
    calls_below (Some c) f place n ops b backs w lt e there =
        land_below (bound n place backs) (taking (arguments_of c) ops) n w
        (λ (t : Taken (List meaning.Operand)). starts code.classes (Some c) f t.it t.rest (b ∷ backs))
        (λ (t : Taken (List meaning.Operand)) w. land_below (bound n place backs) (enter code.classes (head_of c) t.it) n w (λ _. On f 0 t.rest (b ∷ backs))
        (λ _ w. begins_below f place n t.rest b backs w lt e (ap (λ (o : Option FunctionCode). then_some o (λ (c : FunctionCode). slice_get c.instructions 0)) there ∙ (paced.functions f c there).begins)))

    -- a jump to no later place leads to a step
    leads : (k place label target : ℕ) (i : Instruction) → fetch code k place ≡ Some i → jumps_to i ≡ Some label → label_at code k label ≡ Some target → target ≤ place → fetch code k target ≡ Some op.Step
    leads k place label target i here to e le =
        let p = then_is (function_at code k) (λ (c : FunctionCode). slice_get c.instructions place) i here in
        let labelled = sym (ap (λ (o : Option FunctionCode). then_some o (λ (c : FunctionCode). then_some (slice_get c.labels label) place_of)) p.1) ∙ e in
        let jumps = ap (λ (o : Option Instruction). then_some o (λ (i : Instruction). then_some (jumps_to i) (λ (label : ℕ). then_some (slice_get p.0.labels label) place_of))) p.2
        ∙ ap (λ (o : Option ℕ). then_some o (λ (label : ℕ). then_some (slice_get p.0.labels label) place_of)) to
        ∙ labelled in
        ap (λ (o : Option FunctionCode). then_some o (λ (c : FunctionCode). slice_get c.instructions target)) p.1 ∙ (paced.functions k p.0 p.1).jumps place target jumps le

    goes_below : (o : Option ℕ) (i : Instruction) (label k place n : ℕ) (ops : List meaning.Operand) (backs : List Back) (w : World) → place < longest → fetch code k place ≡ Some i → jumps_to i ≡ Some label → label_at code k label ≡ o → Below (bound n place backs) (goes o k ops backs n w)
    goes_below None i label k place n ops backs w lt here to e = tt
    goes_below (Some target) i label k place n ops backs w lt here to e = label_below k place target n ops backs w lt (λ le. leads k place label target i here to e le)

    act_below : (i : Instruction) (k place n : ℕ) (ops : List meaning.Operand) (backs : List Back) (w : World) → fetch code k place ≡ Some i → Below (rank (is_step (Some i)) n (longest + 2) (behind longest place + behind_all longest backs)) (act code (Some i) k place ops backs n w)
    act_below (op.Plain e) k place n ops backs w here = land_below (bound n place backs) (does_effect code (locals_of (function_at code k)) e ops) n w (λ (ops : List meaning.Operand). On k (place + 1) ops backs) (λ ops w. next_below k place n ops backs w (in_total code.functions k place _ here))
    act_below (op.Jump label) k place n ops backs w here = goes_below (label_at code k label) (op.Jump label) label k place n ops backs w (in_total code.functions k place _ here) here refl refl
    act_below (op.Unless label) k place n ops backs w here = land_below (bound n place backs) (tested ops) n w (λ (t : Taken Bool) n w. branch t.it (On k (place + 1) t.rest backs n w) (goes (label_at code k label) k t.rest backs n w)) (λ (t : Taken Bool) w. test t.it t.rest w)
      where
        test : (b : Bool) (ops : List meaning.Operand) (w : World) → Below (bound n place backs) (branch b (On k (place + 1) ops backs n w) (goes (label_at code k label) k ops backs n w))
        test true ops w = next_below k place n ops backs w (in_total code.functions k place _ here)
        test false ops w = goes_below (label_at code k label) (op.Unless label) label k place n ops backs w (in_total code.functions k place _ here) here refl refl
    act_below op.Step k place zero ops backs w here = tt
    act_below op.Step k place (suc m) ops backs w here = next_below k place m ops backs w (in_total code.functions k place _ here)
    act_below (op.Call f) k place n ops backs w here = calls_below (function_at code f) f place n ops (record { function = k; place = place + 1 }) backs w (in_total code.functions k place _ here) refl refl
    act_below (op.Native f c) k place n ops backs w here = asks_below f c k place n ops backs w (in_total code.functions k place _ here)
    act_below op.Return k place n ops backs w here = returns_below (function_at code k) place n ops backs w (in_total code.functions k place _ here)

    -- an instruction that goes on is nearer to the end, whatever the operands are
    pub nears : (i : Instruction) (s s' : State) (n n' : ℕ) (ops ops' : List meaning.Operand) → fetch code s.function s.place ≡ Some i →
        act code (Some i) s.function s.place ops (map steps.back s.backs) n (world s.store [] []) ≡ On s'.function s'.place ops' (map steps.back s'.backs) n' (world s'.store [] []) →
        left code (on s' n' [] []) < left code (on s n [] [])
    nears i s s' n n' ops ops' here acted =
        subst (λ (o : Option Instruction). left code (on s' n' [] []) < rank (is_step o) n (longest + 2) (behind longest s.place + behind_all longest (map steps.back s.backs))) (sym here)
        (subst (Below (rank (is_step (Some i)) n (longest + 2) (behind longest s.place + behind_all longest (map steps.back s.backs)))) acted
        (act_below i s.function s.place n ops (map steps.back s.backs) (world s.store [] []) here))

    pub nearer : {A : Type 0} (i : Instruction) (s s' : State) (n n' : ℕ) (r : Result A Fault) → fetch code s.function s.place ≡ Some i → Acts code i s n r s' n' → Nearer code r s n s' n'
    nearer i s s' n n' (Ok a) here acts = nears i s s' n n' (map shown s.operands) (map shown s'.operands) here (acts [] [])
    nearer i s s' n n' (Err e) here acts = tt

  pub native_nearer : {A : Type 0} (s s' : State) (n : ℕ) (r : Result A Fault) (f : Native) (c : ℕ) → fetch code s.function s.place ≡ Some (op.Native f c) → Follows r s s' → Nearer code r s n s' n
  native_nearer s s' n (Ok a) f c here e =
      subst (λ (o : Option Instruction). left code (on s' n [] []) < rank (is_step o) n (longest + 2) (behind longest s.place + behind_all longest (map steps.back s.backs))) (sym here)
      (subst (λ (bs : List code_back.Back). rank (is_step (fetch code s'.function s'.place)) n (longest + 2) (behind longest s'.place + behind_all longest (map steps.back bs)) < bound n s.place (map steps.back s.backs)) (sym e.2)
      (subst (λ (p : ℕ). rank (is_step (fetch code s'.function p)) n (longest + 2) (behind longest p + behind_all longest (map steps.back s.backs)) < bound n s.place (map steps.back s.backs)) (sym e.1)
      (next_below s'.function s.place n (map shown s.operands) (map steps.back s.backs) (world s.store [] []) (in_total code.functions s.function s.place _ here))))
  native_nearer s s' n (Err x) f c here e = tt
