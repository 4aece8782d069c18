-- Valid code is never stuck: events begin as they should, and what they leave behind fits.
use Rattle.std.proofs.Common.{◌≡◌, ℕ, ℤ, zero, suc, Bool, false, List, [], ◌∷◌, Some, refl, sym, subst}
use Rattle.std.specs.Prelude.{slice_get}
use Rattle.fx8.specs.declared.int_kind.IntKind.TheVariants as kind
use Rattle.mql_mean.specs.declared.value.Value.{out-Value}
use Rattle.mql_mean.specs.declared.value.Value.TheVariants as value
use Rattle.mql_meaning.specs.declared.store.SetInput.{SetInput}
use Rattle.mql_meaning.specs.declared.store.Store.{Store}
use Rattle.mql_meaning.specs.declared.tree.Entry.{Entry}
use Rattle.mql_meaning.specs.declared.tree.Entry.TheVariants as entry
use Rattle.mql_meaning.specs.declared.types.VarType.{VarType}
use Rattle.mql_meaning.specs.Changes.{Ended, Returned, Failed, Exhausted, Stopped, Stuck, Out, Done, Over, Change}
use Rattle.mql_meaning.specs.Runs.{World, world, in_run, change}
use Rattle.mql_meaning.specs.Frames.{opening, enter}
use Rattle.mql_meaning.specs.Means.{Outcome, first, event, event_arguments}
use Rattle.stack_code.specs.declared.code.Code.{Code}
use Rattle.stack_code.specs.declared.code.FunctionCode.{FunctionCode}
use Rattle.stack_code.specs.declared.code.OperandType.{OperandType}
use Rattle.stack_code.specs.Machine.{Next, On, Halt, land, head_of, starts, starts_at, begins, advances, program_of, Gives}
use Rattle.stack_validity.specs.Types.{ValueOf}
use Rattle.stack_validity.specs.Fits.{InputsFit, StoreFits, Fits, Sound, Faults, Leaves, Safe}
use Rattle.stack_validity.specs.Rules.{Kinds, Passes}
use Rattle.stack_validity.specs.Valid.{int_type, TakesOf, Typed}
use Rattle.stack_validity.specs.Running.{Running, Runs}
use Rattle.stack_validity.specs.Law.{Reached, NeverStuck}
use Rattle.stack_validity.proofs.Values.{some_same, none_some}
use Rattle.stack_validity.proofs.Keeps.{sort_value}
use Rattle.stack_validity.proofs.Stores.{give_safe}
use Rattle.stack_validity.proofs.Calling.{Opens, enter_safe, begin_safe}
use Rattle.stack_validity.proofs.Operating.{ArgumentsOf}
use Rattle.stack_validity.proofs.Going.{changed_lands, all_go_on}
use denote.Hole.Carrier.{out}

module _ (code : Code) (kinds : Kinds) (valid : Typed code kinds) where
  -- the arguments of an event are those that its function takes
  record Arguments (e : Entry) (arg : ℤ) (c : FunctionCode) (AtEnd : Store → Type 0) (calls : List FunctionCode) (to_end : (store : Store) → StoreFits code calls store → AtEnd store) : Type 0 where
    kinds_are : List OperandType
    passes : Passes c.locals c.lent kinds_are
    are : ArgumentsOf code AtEnd calls to_end kinds_are (event_arguments e arg)

  int_value : (arg : ℤ) → ValueOf code.classes int_type (value.Num kind.Int arg)
  unfolding out-Value denote.Hole.Carrier.out
  int_value arg = sort_value code.classes int_type (value.Num kind.Int arg) refl

  no_arguments : (ts : List VarType) (ls : List Bool) → ls ≡ [] → Passes ts ls []
  no_arguments ts ls e = subst (λ ls. Passes ts ls []) (sym e) (tt {0})

  one_argument : (ts : List VarType) (ls : List Bool) → ls ≡ false ∷ [] → slice_get ts 0 ≡ Some int_type → Passes ts ls (record { of = int_type; place = false } ∷ [])
  one_argument [] ls e t = absurd (none_some t)
  one_argument (u ∷ ts) ls e t = subst (λ ls. Passes (u ∷ ts) ls (record { of = int_type; place = false } ∷ [])) (sym e) (refl, sym (some_same t), tt)

  module _ (AtEnd : Store → Type 0) (calls : List FunctionCode) (to_end : (store : Store) → StoreFits code calls store → AtEnd store) where
    arguments : (e : Entry) (arg : ℤ) (c : FunctionCode) → TakesOf e c → Arguments e arg c AtEnd calls to_end
    arguments entry.Start arg c t = record { kinds_are = []; passes = no_arguments c.locals c.lent t; are = refl }
    arguments entry.Init arg c t = record { kinds_are = []; passes = no_arguments c.locals c.lent t; are = refl }
    arguments entry.Tick arg c t = record { kinds_are = []; passes = no_arguments c.locals c.lent t; are = refl }
    arguments entry.Trade arg c t = record { kinds_are = []; passes = no_arguments c.locals c.lent t; are = refl }
    arguments entry.Tester arg c t = record { kinds_are = []; passes = no_arguments c.locals c.lent t; are = refl }
    arguments entry.Stop arg c t = record { kinds_are = []; passes = no_arguments c.locals c.lent t; are = refl }
    arguments entry.Deinit arg c t = record { kinds_are = record { of = int_type; place = false } ∷ []; passes = one_argument c.locals c.lent t.0 t.1; are = ((refl, int_value arg), refl) }

  -- an event whose first part leaves a store that fits begins so
  module _ (AtEnd : Store → Type 0) (to_end : (calls : List FunctionCode) (store : Store) → StoreFits code calls store → AtEnd store) (calls : List FunctionCode) where
    function_begins : (e : Entry) (k : ℕ) (arg : ℤ) (n : ℕ) (w : World) → event (program_of code) e ≡ Some k → StoreFits code calls w.store
        → Runs code kinds AtEnd (starts_at code (event (program_of code) e) (event_arguments e arg) n w)
    function_begins e k arg n w is g =
        let f = valid.entries e k is in
        let v = valid.functions k f.function f.there in
        subst (λ o. Runs code kinds AtEnd (starts_at code o (event_arguments e arg) n w)) (sym is)
        (subst (λ o. Runs code kinds AtEnd (starts code.classes o k (event_arguments e arg) [] [] n w)) (sym f.there)
        (let a = arguments AtEnd calls (to_end calls) e arg f.function f.takes in
        changed_lands code kinds valid AtEnd to_end (StoreFits code calls) (StoreFits code (f.function ∷ calls)) (λ _. Unit {0}) (enter code.classes (head_of f.function) (event_arguments e arg)) n w _
        (enter_safe code valid.nesting AtEnd calls (to_end calls) f.function v.locals a.kinds_are (event_arguments e arg) f.free a.passes a.are)
        g (λ _ n w u g. record {
          function = f.function;
          there = f.there;
          callers = calls;
          known = [];
          here = v.begins;
          operands = refl;
          fits = g;
        })))

  module _ (AtEnd : Store → Type 0) (to_end : (calls : List FunctionCode) (store : Store) → StoreFits code calls store → AtEnd store) (calls : List FunctionCode) (Before : Store → Type 0) where
    event_begins : (e : Entry) (k : ℕ) (arg : ℤ) (n : ℕ) (w : World) → event (program_of code) e ≡ Some k → Safe AtEnd Before (StoreFits code calls) (λ _. Unit {0}) (first (program_of code) e)
        → Before w.store → Runs code kinds AtEnd (begins code e arg n w)
    event_begins e k arg n w is s h =
        changed_lands code kinds valid AtEnd to_end Before (StoreFits code calls) (λ _. Unit {0}) (first (program_of code) e) n w _ s h
        (λ _ n w u g. function_begins AtEnd to_end calls e k arg n w is g)

    -- and ends so
    event_ends : (e : Entry) (k : ℕ) (arg : ℤ) (n : ℕ) (w : World) (o : Outcome) → event (program_of code) e ≡ Some k → Safe AtEnd Before (StoreFits code calls) (λ _. Unit {0}) (first (program_of code) e)
        → Before w.store → Gives code e arg n w o → Sound o.ended × AtEnd o.world.store
    event_ends e k arg n w o is s h g =
        subst (Runs code kinds AtEnd) g.is (all_go_on code kinds valid AtEnd to_end g.instructions (begins code e arg n w) (event_begins e k arg n w is s h))

  fits_of : (calls : List FunctionCode) (store : Store) → StoreFits code calls store → Fits code store
  fits_of calls store h = record { calls = calls; fits = h }

  -- Start from an opening store
  abbrev Opening : Store → Type 0
  Opening store = Opens code valid.nesting (λ _. Unit {0}) [] store

  opening_fits : (set : List SetInput) (store : Store) → store ≡ opening set → InputsFit code set → Opening store
  opening_fits set store e h = subst Opening (sym e) (record { frames = refl; inputs = h })

  start_safe : Safe (λ _. Unit {0}) Opening (StoreFits code []) (λ _. Unit {0}) (first (program_of code) entry.Start)
  start_safe =
      begin_safe code valid.nesting (λ _. Unit {0}) [] (λ store h. tt {0}) Opening (λ store h. h) (λ store h. tt {0})
      (λ n store h. record { frames = h.frames; inputs = h.inputs }) valid.globals valid.inputs

  started : (k : ℕ) → event (program_of code) entry.Start ≡ Some k → (set : List SetInput) → InputsFit code set → (arg : ℤ) (n : ℕ) (w : World) → w.store ≡ opening set
      → (o : Outcome) → Gives code entry.Start arg n w o → Sound o.ended
  started k is set h arg n w e o g =
      (event_ends (λ _. Unit {0}) (λ calls store f. tt {0}) [] Opening entry.Start k arg n w o is start_safe (opening_fits set w.store e h) g).0

  -- where it returned, a store is left that fits
  abbrev Leaving : Ended → Store → Type 0
  Leaving (Returned v) store = Fits code store
  Leaving (Failed kind line) store = Unit {0}
  Leaving Exhausted store = Unit {0}
  Leaving Stopped store = Unit {0}
  Leaving Stuck store = Unit {0}

  abbrev Begun : Next → Type 0
  Begun (On k place ops backs n w) = Running code kinds k place ops backs w.store
  Begun (Halt e n w) = Leaving e w.store

  fits_leaving : (e : Ended) (store : Store) → Fits code store → Leaving e store
  fits_leaving (Returned v) store h = h
  fits_leaving (Failed kind line) store h = tt
  fits_leaving Exhausted store h = tt
  fits_leaving Stopped store h = tt
  fits_leaving Stuck store h = tt

  fault_leaving : (e : Ended) (store : Store) → Faults e → Leaving e store
  fault_leaving (Returned v) store h = absurd h
  fault_leaving (Failed kind line) store h = tt
  fault_leaving Exhausted store h = tt
  fault_leaving Stopped store h = tt
  fault_leaving Stuck store h = tt

  runs_begun : (x : Next) → Runs code kinds (Fits code) x → Begun x
  runs_begun (On k place ops backs n w) h = h
  runs_begun (Halt e n w) h = fits_leaving e w.store h.1

  halted : (j : ℕ) (e : Ended) (n : ℕ) (w : World) → advances code j (Halt e n w) ≡ Halt e n w
  halted zero e n w = refl
  halted (suc j) e n w = halted j e n w

  begun_on : (j : ℕ) (x : Next) → Begun x → Begun (advances code j x)
  begun_on j (On k place ops backs n w) h = runs_begun (advances code j (On k place ops backs n w)) (all_go_on code kinds valid (Fits code) fits_of j (On k place ops backs n w) h)
  begun_on j (Halt e n w) h = subst Begun (sym (halted j e n w)) h

  begun_in : {A : Type 0} (AtEnd I J : Store → Type 0) (P : A → Type 0) (f : Change A) (n : ℕ) (w : World) (to : A → ℕ → World → Next) → Safe AtEnd I J P f → I w.store
      → ((a : A) (n : ℕ) (w : World) → P a → J w.store → Runs code kinds (Fits code) (to a n w)) → Begun (land (change f n w) to)
  unfolding change
  begun_in AtEnd I J P f n w to s h k = by_out (f w.store) (s.from w.store h)
    where
      by_out : (o : Out _) → Leaves AtEnd J P o → Begun (land (in_run o n w) to)
      by_out (Done a store) h = runs_begun (to a n (world store w.calls w.answers)) (k a n (world store w.calls w.answers) h.0 h.1)
      by_out (Over e store) h = fault_leaving e store h.0

  start_leaves : (k : ℕ) → event (program_of code) entry.Start ≡ Some k → (set : List SetInput) → InputsFit code set → (arg : ℤ) (n : ℕ) (w : World) → w.store ≡ opening set
      → (o : Outcome) → Gives code entry.Start arg n w o → Leaving o.ended o.world.store
  start_leaves k is set h arg n w e o g =
      subst Begun g.is (begun_on g.instructions (begins code entry.Start arg n w)
      (begun_in (λ _. Unit {0}) Opening (StoreFits code []) (λ _. Unit {0}) (first (program_of code) entry.Start) n w _ start_safe (opening_fits set w.store e h)
      (λ _ n w u f. function_begins (Fits code) fits_of [] entry.Start k arg n w is f)))

  -- an event from a store that fits
  first_safe : (calls : List FunctionCode) (e : Entry) → Safe (Fits code) (StoreFits code calls) (StoreFits code calls) (λ _. Unit {0}) (first (program_of code) e)
  first_safe calls entry.Start =
      begin_safe code valid.nesting (Fits code) calls (fits_of calls) (StoreFits code calls) (λ store h. record { frames = h.frames; inputs = h.inputs }) (fits_of calls)
      (λ n store h. record { globals = h.globals; frames = h.frames; inputs = h.inputs }) valid.globals valid.inputs
  first_safe calls entry.Init = give_safe code (Fits code) (tt {0}) (tt {0})
  first_safe calls entry.Tick = give_safe code (Fits code) (tt {0}) (tt {0})
  first_safe calls entry.Trade = give_safe code (Fits code) (tt {0}) (tt {0})
  first_safe calls entry.Tester = give_safe code (Fits code) (tt {0}) (tt {0})
  first_safe calls entry.Deinit = give_safe code (Fits code) (tt {0}) (tt {0})
  first_safe calls entry.Stop = give_safe code (Fits code) (tt {0}) (tt {0})

  later_ends : (e : Entry) (k : ℕ) (arg : ℤ) (n : ℕ) (w : World) (o : Outcome) → event (program_of code) e ≡ Some k → Fits code w.store → Gives code e arg n w o → Sound o.ended × Fits code o.world.store
  later_ends e k arg n w o is h g = event_ends (Fits code) fits_of h.calls (StoreFits code h.calls) e k arg n w o is (first_safe h.calls e) h.fits g

  -- each store that events leave behind fits
  reached_fits : (events : ℕ) (store : Store) → Reached code events store → Fits code store
  reached_fits zero store h =
      subst (Fits code) h.leaves
      (subst (λ e. Leaving e h.outcome.world.store) h.returned
      (start_leaves h.has.0 h.has.1 h.set h.fit h.argument h.steps h.world h.opens h.outcome h.gives))
  reached_fits (suc events) store h =
      subst (Fits code) h.leaves
      ((later_ends h.entry h.has.0 h.argument h.steps h.world h.outcome h.has.1 (reached_fits events h.world.store h.before) h.gives).1)

  pub never_stuck : NeverStuck code
  never_stuck = record {
    start = λ has set fit arg n w opens o g. started has.0 has.1 set fit arg n w opens o g;
    later = λ e has events arg n w reached o g. (later_ends e has.0 arg n w o has.1 (reached_fits events w.store reached) g).0;
  }
