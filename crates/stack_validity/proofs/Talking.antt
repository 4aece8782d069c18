-- Calls of native functions that ask the world are never stuck: a reply that does not fit stops the run.
use denote.Hole.Carrier.{out}
use Rattle.std.proofs.Common.{◌≡◌, ℕ, Bool, true, false, List, [], ◌∷◌, ◌++◌, Option, Some, None, refl, sym, ap, ◌∙◌, subst}
use Rattle.std.specs.Prelude.{◌&&◌}
use Rattle.mql_mean.specs.declared.value.Value.{Value, out-Value}
use Rattle.mql_mean.specs.declared.host.HostCall.{HostCall}
use Rattle.mql_mean.specs.declared.host.Reply.{Reply}
use Rattle.mql_mean.specs.Answer.{Answer, Replied, Refused}
use Rattle.natives.specs.declared.native.Native.{Native}
use Rattle.natives.specs.declared.native.Native.TheVariants as natives
use Rattle.natives.specs.declared.signature.ResultType.{ResultType}
use Rattle.natives.specs.declared.signature.ResultType.TheVariants as results
use Rattle.natives.specs.declared.types.SimpleType.{SimpleType}
use Rattle.natives.specs.declared.types.SimpleType.TheVariants as simple
use Rattle.natives.specs.Signatures.{signature}
use Rattle.mql_meaning.specs.declared.cell.Cell.{Cell}
use Rattle.mql_meaning.specs.declared.place.Place.{Place}
use Rattle.mql_meaning.specs.declared.store.Store.{Store}
use Rattle.mql_meaning.specs.declared.types.Sort.TheVariants as sort
use Rattle.mql_meaning.specs.declared.types.VarType.{VarType}
use Rattle.mql_meaning.specs.Changes.{Ended, Returned, Failed, Exhausted, Stopped, Stuck, Out, Done, Over, Change, then_some, either}
use Rattle.mql_meaning.specs.Runs.{World, world, Res, Go, End, Act, bind, ◌>>=◌, ◌>>◌, pure, halt, in_run, change, choose}
use Rattle.mql_meaning.specs.Cells.{put}
use Rattle.mql_meaning.specs.Operands.{Operand, Val, At}
use Rattle.mql_meaning.specs.Operators.{sort_of}
use Rattle.mql_meaning.specs.References.{cells_at, put_at}
use Rattle.mql_meaning.specs.Calls.{asks, sample, is_of, result_of, is_sound, all_sound, put_each, fits, replied, answered, ask, places_in, arguments, values_of, host_call, does_native, runs_native, calls_native}
use Rattle.mql_meaning.specs.Natives.{computes}
use Rattle.natives.specs.Names.{native_number}
use Rattle.stack_code.specs.declared.code.Code.{Code}
use Rattle.stack_code.specs.declared.code.FunctionCode.{FunctionCode}
use Rattle.stack_code.specs.declared.code.OperandType.{OperandType}
use Rattle.stack_validity.specs.Types.{CellOf}
use Rattle.stack_validity.specs.Fits.{PlaceOf, StoreFits, Sound, Faults, Leaves, Safe}
use Rattle.stack_validity.specs.Rules.{simple_sort}
use Rattle.stack_validity.proofs.Values.{some_same, none_some, found, alike_sort}
use Rattle.stack_validity.proofs.Keeps.{put_keeps}
use Rattle.stack_validity.proofs.Stores.{by_test, give_safe, then_safe, cell_safe, replace_safe}
use Rattle.stack_validity.proofs.Operating.{ArgumentsOf}

-- the functions on pointers ask no world
get_pointer_asks : asks natives.GetPointer ≡ false
unfolding signature
get_pointer_asks = refl

check_pointer_asks : asks natives.CheckPointer ≡ false
unfolding signature
check_pointer_asks = refl

asks_not : (f : Native) → asks f ≡ false → asks f ≡ true → ⊥
asks_not f e g = let h : false ≡ true = sym e ∙ g in absurd cc

-- both tests hold
pub both_hold : (a b : Bool) → (a && b) ≡ true → (a ≡ true) × (b ≡ true)
both_hold true b e = (refl, e)
both_hold false b e = absurd cc

-- what a part of a run comes to: something with a property, or an end that is not stuck
abbrev pub Comes : {A : Type 0} → (Store → Type 0) → (Store → Type 0) → (A → Type 0) → Res A → Type 0
Comes AtEnd J P (Go a n w) = P a × J w.store
Comes AtEnd J P (End e n w) = Sound e × AtEnd w.store

pub record Does {A : Type 0} (AtEnd J : Store → Type 0) (P : A → Type 0) (part : Act A) : Type 0 where
  pub from : (n : ℕ) (w : World) → J w.store → Comes AtEnd J P (part n w)

comes_on : {A B : Type 0} (AtEnd J : Store → Type 0) (P : A → Type 0) (Q : B → Type 0) (r : Res A) (g : A → Act B) → Comes AtEnd J P r → ((a : A) → P a → Does AtEnd J Q (g a)) → Comes AtEnd J Q (bind r g)
comes_on AtEnd J P Q (Go a n w) g h k = (k a h.0).from n w h.1
comes_on AtEnd J P Q (End e n w) g h k = h

pub then_does : {A B : Type 0} {AtEnd J : Store → Type 0} {P : A → Type 0} {Q : B → Type 0} {f : Act A} {g : A → Act B} → Does AtEnd J P f → ((a : A) → P a → Does AtEnd J Q (g a)) → Does AtEnd J Q (f >>= g)
unfolding ◌>>=◌
then_does {AtEnd} {J} {P} {Q} {f} {g} s k = record { from = λ n w h. comes_on AtEnd J P Q (f n w) g (s.from n w h) k }

pub fault_sound : (e : Ended) → Faults e → Sound e
fault_sound (Returned v) h = tt
fault_sound (Failed kind line) h = tt
fault_sound Exhausted h = tt
fault_sound Stopped h = tt
fault_sound Stuck h = h

pub next_does : {A B : Type 0} {AtEnd J : Store → Type 0} {P : A → Type 0} {Q : B → Type 0} {f : Act A} {g : Act B} → Does AtEnd J P f → Does AtEnd J Q g → Does AtEnd J Q (f >> g)
unfolding ◌>>◌
next_does {AtEnd} {J} {P} {Q} {f} {g} s k = record { from = λ n w h. comes_on AtEnd J P Q (f n w) (λ _. g) (s.from n w h) (λ _ p. k) }

comes_in : {A : Type 0} (AtEnd J : Store → Type 0) (P : A → Type 0) (o : Out A) (n : ℕ) (w : World) → Leaves AtEnd J P o → Comes AtEnd J P (in_run o n w)
comes_in AtEnd J P (Done a store) n w h = h
comes_in AtEnd J P (Over e store) n w h = (fault_sound e h.0, h.1)

pub change_does : {A : Type 0} {AtEnd J : Store → Type 0} {P : A → Type 0} {f : Change A} → Safe AtEnd J J P f → Does AtEnd J P (change f)
unfolding change
change_does {AtEnd} {J} {P} {f} s = record { from = λ n w h. comes_in AtEnd J P (f w.store) n w (s.from w.store h) }

pub pure_does : {A : Type 0} {AtEnd J : Store → Type 0} {P : A → Type 0} (a : A) → P a → Does AtEnd J P (pure a)
unfolding pure
pure_does a p = record { from = λ n w h. (p, h) }

pub halt_does : {A : Type 0} {AtEnd J : Store → Type 0} {P : A → Type 0} (e : Ended) → Sound e → ((store : Store) → J store → AtEnd store) → Does AtEnd J P (halt {A = A} e)
unfolding halt
halt_does e s k = record { from = λ n w h. (s, k w.store h) }

choose_does : {A : Type 0} {AtEnd J : Store → Type 0} {P : A → Type 0} (b : Bool) (f g : Act A) → b ≡ true → Does AtEnd J P f → Does AtEnd J P (choose b f g)
unfolding choose
choose_does true f g e s = record { from = s.from }
choose_does false f g e s = absurd cc

pub choose_not : {A : Type 0} {AtEnd J : Store → Type 0} {P : A → Type 0} (b : Bool) (f g : Act A) → b ≡ false → Does AtEnd J P g → Does AtEnd J P (choose b f g)
unfolding choose
choose_not true f g e s = absurd (let h : true ≡ false = e in cc)
choose_not false f g e s = record { from = s.from }

-- a value of a native function's type
abbrev pub OfResult : ResultType → Value → Type 0
OfResult r v = is_of r v ≡ true

pub result_sort : (t : SimpleType) (v : Value) → OfResult (results.Simple t) v → sort_of v ≡ Some (simple_sort t)
unfolding out-Value denote.Hole.Carrier.out
result_sort (simple.Integer k) v e = alike_sort (out-Value (sample (simple.Integer k))) (out-Value v) (sort.Number k) e refl
result_sort simple.Double v e = alike_sort (out-Value (sample simple.Double)) (out-Value v) sort.Double e refl
result_sort simple.String v e = alike_sort (out-Value (sample simple.String)) (out-Value v) sort.String e refl

module _ (code : Code) (AtEnd : Store → Type 0) (calls : List FunctionCode) (to_end : (store : Store) → StoreFits code calls store → AtEnd store) where
  abbrev S : {A : Type 0} → (A → Type 0) → Change A → Type 0
  S P f = Safe AtEnd (StoreFits code calls) (StoreFits code calls) P f

  abbrev D : {A : Type 0} → (A → Type 0) → Act A → Type 0
  D P f = Does AtEnd (StoreFits code calls) P f

  -- places of types, and cells of these types
  abbrev Typed : List Place → Type 0
  Typed [] = Unit {0}
  Typed (p ∷ ps) = ((t : VarType) × PlaceOf code calls t p) × Typed ps

  abbrev Pairs : List Place → List Cell → Type 0
  Pairs [] [] = Unit {0}
  Pairs [] (c ∷ cs) = ⊥
  Pairs (p ∷ ps) [] = ⊥
  Pairs (p ∷ ps) (c ∷ cs) = ((t : VarType) × PlaceOf code calls t p × CellOf code.classes t c) × Pairs ps cs

  places_typed : (ks : List OperandType) (xs : List Operand) → ArgumentsOf code AtEnd calls to_end ks xs → Typed (places_in xs)
  places_typed [] [] h = tt
  places_typed [] (x ∷ xs) h = absurd (let e : (x ∷ xs) ≡ [] = h in cc)
  places_typed (k ∷ ks) [] h = absurd h
  places_typed (k ∷ ks) (Val v ∷ xs) h = places_typed ks xs h.1
  places_typed (k ∷ ks) (At p ∷ xs) h = ((k.of, h.0.1), places_typed ks xs h.1)

  pub cells_safe : (ps : List Place) → Typed ps → S (Pairs ps) (cells_at ps)
  cells_safe [] h = give_safe code AtEnd [] (tt {0})
  cells_safe (p ∷ ps) h =
      then_safe code AtEnd (cell_safe code AtEnd calls to_end h.0.0 p h.0.1) (λ c f.
      then_safe code AtEnd (cells_safe ps h.1) (λ cs g.
      give_safe code AtEnd (c ∷ cs) ((h.0.0, h.0.1, f), g)))

  pairs_put : (ps : List Place) (cs : List Cell) (vs : List Value) (new : List Cell) → Pairs ps cs → put_each cs vs ≡ Some new → Pairs ps new
  pairs_put [] [] [] new h e = subst (Pairs []) (some_same e) (tt {0})
  pairs_put [] [] (v ∷ vs) new h e = absurd (none_some e)
  pairs_put [] (c ∷ cs) vs new h e = absurd h
  pairs_put (p ∷ ps) [] vs new h e = absurd h
  pairs_put (p ∷ ps) (c ∷ cs) [] new h e = absurd (none_some e)
  pairs_put (p ∷ ps) (c ∷ cs) (v ∷ vs) new h e =
      let f = found (put c v) (λ d. then_some (put_each cs vs) (λ ds. Some (d ∷ ds))) new e in
      let g = found (put_each cs vs) (λ ds. Some (f.it ∷ ds)) new f.on in
      subst (Pairs (p ∷ ps)) (some_same g.on) ((h.0.0, h.0.1, put_keeps code.classes h.0.0 c v f.it h.0.2 f.is), pairs_put ps cs vs g.it h.1 g.is)

  pub put_safe : (ps : List Place) (cs new : List Cell) → Pairs ps cs → Pairs ps new → S (λ _. Unit {0}) (put_at ps cs new)
  put_safe [] [] [] h g = give_safe code AtEnd (tt {0}) (tt {0})
  put_safe [] [] (d ∷ new) h g = absurd g
  put_safe [] (c ∷ cs) new h g = absurd h
  put_safe (p ∷ ps) [] new h g = absurd h
  put_safe (p ∷ ps) (c ∷ cs) [] h g = absurd g
  put_safe (p ∷ ps) (c ∷ cs) (d ∷ new) h g =
      then_safe code AtEnd (replace_safe code AtEnd calls to_end g.0.0 p c d g.0.1 g.0.2) (λ _ u. put_safe ps cs new h.1 g.1)

  -- what a reply that fits puts at places, and its value
  fits_pairs : (f : Native) (r : Reply) (ps : List Place) (cs new : List Cell) → Pairs ps cs → fits (Some f) r cs ≡ Some new → OfResult (signature f).result r.value × Pairs ps new
  fits_pairs f r ps cs new h e = by_test (is_of (result_of (Some f)) r.value && is_sound r.value && all_sound r.outs)
      (λ b. (
        (both_hold (is_of (signature f).result r.value) _ (split b)).0,
        pairs_put ps cs r.outs new h (sym (ap (λ b. either b (put_each cs r.outs) None) b) ∙ e),
      ))
      (λ b. absurd (none_some (sym (ap (λ b. either b (put_each cs r.outs) None) b) ∙ e)))
    where
      first_of_three : (a b c : Bool) → (a && b && c) ≡ true → (a && true) ≡ true
      first_of_three true b c e = refl
      first_of_three false b c e = absurd cc

      split : (is_of (signature f).result r.value && is_sound r.value && all_sound r.outs) ≡ true → (is_of (signature f).result r.value && true) ≡ true
      split e = first_of_three (is_of (signature f).result r.value) (is_sound r.value) (all_sound r.outs) e

  replied_does : (f : Native) (v : Value) (ps : List Place) (cs : List Cell) (o : Option (List Cell)) → Pairs ps cs → ((new : List Cell) → o ≡ Some new → OfResult (signature f).result v × Pairs ps new)
      → D (OfResult (signature f).result) (replied o v ps cs)
  replied_does f v ps cs None h k = halt_does Stopped (tt {0}) to_end
  replied_does f v ps cs (Some new) h k =
      let g = k new refl in
      then_does (change_does (put_safe ps cs new h g.1)) (λ _ u. pure_does v g.0)

  answered_comes : (f : Native) (c : HostCall) (ps : List Place) (cs : List Cell) (answers : List Answer) (n : ℕ) (w : World) → Pairs ps cs → StoreFits code calls w.store
      → Comes AtEnd (StoreFits code calls) (OfResult (signature f).result) (answered (Some f) c ps cs answers n w)
  answered_comes f c ps cs [] n w h g = (tt, to_end w.store g)
  answered_comes f c ps cs (Replied r ∷ answers) n w h g =
      (replied_does f r.value ps cs (fits (Some f) r cs) h (λ new e. fits_pairs f r ps cs new h e)).from n (world w.store (w.calls ++ c ∷ []) answers) g
  answered_comes f c ps cs (Refused kind ∷ answers) n w h g = (tt, to_end w.store g)

  ask_does : (f : Native) (c : HostCall) (ps : List Place) (cs : List Cell) → Pairs ps cs → D (OfResult (signature f).result) (ask (Some f) c ps cs)
  unfolding ask
  ask_does f c ps cs h = record { from = λ n w g. answered_comes f c ps cs w.answers n w h g }

  runs_does : (f : Native) (ks : List OperandType) (xs : List Operand) → asks f ≡ true → ArgumentsOf code AtEnd calls to_end ks xs → D (OfResult (signature f).result) (runs_native f xs)
  runs_does f ks xs e h =
      then_does (change_does (cells_safe (places_in xs) (places_typed ks xs h))) (λ cs g.
      choose_does (asks f) (ask (Some f) (host_call (native_number f) (values_of (arguments xs cs)) cs) (places_in xs) cs) (does_native (places_in xs) cs (computes f (arguments xs cs))) e (ask_does f (host_call (native_number f) (values_of (arguments xs cs)) cs) (places_in xs) cs g))

  -- a call of a function that asks the world
  pub asks_does : (f : Native) (ks : List OperandType) (xs : List Operand) → asks f ≡ true → ArgumentsOf code AtEnd calls to_end ks xs → D (OfResult (signature f).result) (calls_native f xs)
  asks_does natives.GetPointer ks xs e h = absurd (asks_not natives.GetPointer get_pointer_asks e)
  asks_does natives.CheckPointer ks xs e h = absurd (asks_not natives.CheckPointer check_pointer_asks e)
  asks_does f ks xs e h = runs_does f ks xs e h
