-- The meaning of a call, with what is lent and what is put back as the code has it.
use Rattle.std.proofs.Common.{◌≡◌, ℕ, Bool, true, false, List, [], ◌∷◌, ◌++◌, map, Option, Some, None, refl, sym, ap, ◌∙◌}
use Rattle.natives.specs.declared.native.Native.{Native}
use Rattle.natives.specs.Names.{native_number}
use Rattle.mql_mean.specs.declared.value.Value.{Value}
use Rattle.mql_mean.specs.declared.host.HostCall.{HostCall}
use Rattle.mql_mean.specs.Answer.{Answer, Replied, Refused}
use Rattle.mql_meaning.specs.declared.cell.Cell.{Cell}
use Rattle.mql_meaning.specs.declared.place.Place.{Place}
use Rattle.mql_meaning.specs.declared.store.Store.{Store}
use Rattle.mql_meaning.specs.Changes.{Out, Done, Over, after, give}
use Rattle.mql_meaning.specs.Cells.{weight}
use Rattle.mql_meaning.specs.Places.{cell_at}
use Rattle.mql_meaning.specs.Operands.{Operand, Val, At}
use Rattle.mql_meaning.specs.References.{cells_at, put_at}
use Rattle.mql_meaning.specs.Natives.{Argument, Given, Lent, NativeDone, computes}
use Rattle.mql_meaning.specs.Runs.{World, world, Res, Go, End, Act, bind, in_run, ◌>>=◌, ◌>>◌, pure, halt, change, choose}
use Rattle.mql_meaning.specs.Calls.{answered, arguments, ask, asks, does_native, fits, host_call, places_in, replied, runs_native, tells, values_of}
use Rattle.native_calls.specs.declared.outcome.Fitting.{Fitting}
use Rattle.native_calls.specs.Lent.{cells_in, lends}
use Rattle.native_calls.specs.Outcomes.{asked, comes_to, computed, ends_with, fitted, judged, judged_by, of_done, of_reply, outcome, runs_lent}
use Rattle.native_calls.specs.Written.{put_counted}
use Rattle.native_calls.proofs.Putting.{counted_same}

-- arguments with the cells among them
abbrev Paired : Type 0
Paired = List Argument × List Cell

abbrev paired : Out (List Argument) → Out Paired
paired o = after o (λ args. give (args, cells_in args))

abbrev paired_back : List Operand → Out (List Cell) → Out Paired
paired_back xs o = after o (λ cs. give (arguments xs cs, cs))

abbrev with_value : Value → Out Paired → Out Paired
with_value v o = after o (λ q. give (Given v ∷ q.0, q.1))

abbrev with_cell : Cell → Out Paired → Out Paired
with_cell c o = after o (λ q. give (Lent c ∷ q.0, c ∷ q.1))

given_first : (v : Value) (o : Out (List Argument)) →
    paired (after o (λ args. give (Given v ∷ args))) ≡ with_value v (paired o)
given_first v (Done args s) = refl
given_first v (Over e s) = refl

given_back : (v : Value) (xs : List Operand) (o : Out (List Cell)) →
    with_value v (paired_back xs o) ≡ paired_back (Val v ∷ xs) o
given_back v xs (Done cs s) = refl
given_back v xs (Over e s) = refl

lent_first : (c : Cell) (o : Out (List Argument)) →
    paired (after o (λ args. give (Lent c ∷ args))) ≡ with_cell c (paired o)
lent_first c (Done args s) = refl
lent_first c (Over e s) = refl

lent_back : (c : Cell) (p : Place) (xs : List Operand) (o : Out (List Cell)) →
    with_cell c (paired_back xs o) ≡ paired_back (At p ∷ xs) (after o (λ cs. give (c ∷ cs)))
lent_back c p xs (Done cs s) = refl
lent_back c p xs (Over e s) = refl

at_place : (p : Place) (xs : List Operand) (o : Out Cell) →
    ((s : Store) → paired (lends xs s) ≡ paired_back xs (cells_at (places_in xs) s)) →
    paired (after (after o (λ c. give (Lent c))) (λ a store. after (lends xs store) (λ args. give (a ∷ args))))
    ≡ paired_back (At p ∷ xs) (after o (λ c store. after (cells_at (places_in xs) store) (λ cs. give (c ∷ cs))))
at_place p xs (Done c s) e =
    lent_first c (lends xs s) ∙ ap (with_cell c) (e s) ∙ lent_back c p xs (cells_at (places_in xs) s)
at_place p xs (Over e s) h = refl

pub lent_both : (xs : List Operand) (s : Store) →
    paired (lends xs s) ≡ paired_back xs (cells_at (places_in xs) s)
lent_both [] s = refl
lent_both (Val v ∷ xs) s =
    given_first v (lends xs s) ∙ ap (with_value v) (lent_both xs s) ∙ given_back v xs (cells_at (places_in xs) s)
lent_both (At p ∷ xs) s = at_place p xs (cell_at p s) (lent_both xs)

-- a change that gives what is made of another, in a run
given_in_run : {A B C : Type 0} (o : Out A) (h : A → B) (g : B → Act C) (n : ℕ) (w : World) →
    bind (in_run (after o (λ a. give (h a))) n w) g ≡ bind (in_run o n w) (λ a. g (h a))
given_in_run (Done a s) h g n w = refl
given_in_run (Over e s) h g n w = refl

bind_same : {A B : Type 0} (r : Res A) (g h : A → Act B) → ((a : A) (n : ℕ) (w : World) → g a n w ≡ h a n w) →
    bind r g ≡ bind r h
bind_same (Go a n w) g h e = e a n w
bind_same (End x n w) g h e = refl

bind_on : {A B C : Type 0} (r : Res A) (g : A → Act B) (h : B → Act C) →
    bind (bind r g) h ≡ bind r (λ a n w. bind (g a n w) h)
bind_on (Go a n w) g h = refl
bind_on (End x n w) g h = refl

-- what is written, by counts
abbrev then_told : Bool → Value → Res (Unit {0}) → Res Value
then_told b v r = bind r (λ _. tells b >> pure v)

module _ (ps : List Place) (cs : List Cell) where
  told_false : (v : Value) (o : Out (Unit {0})) (n : ℕ) (w : World) →
      bind (in_run o n w) (λ _. pure v) ≡ then_told false v (in_run o n w)
  unfolding ◌>>◌ pure
  told_false v (Done u s) n w = refl
  told_false v (Over e s) n w = refl

  reply_written : (r : Fitting) (n : ℕ) (w : World) →
      (change (put_at ps cs r.news) >>= λ _. pure r.value) n w ≡ ends_with ps (of_reply cs r) n w
  unfolding ends_with ◌>>=◌ ◌>>◌ pure change
  reply_written r n w =
      ap (λ (o : Out (Unit {0})). bind (in_run o n w) (λ _. pure r.value)) (counted_same ps cs r.news w.store)
      ∙ told_false r.value (put_counted ps (map weight cs) r.news w.store) n w

  done_written : (d : NativeDone) (n : ℕ) (w : World) →
      bind (change (put_at ps cs d.outs) n w) (λ _. tells d.out_of_range >> pure d.value) ≡ ends_with ps (of_done cs d) n w
  unfolding ends_with ◌>>◌ change
  done_written d n w =
      ap (λ (o : Out (Unit {0})). then_told d.out_of_range d.value (in_run o n w)) (counted_same ps cs d.outs w.store)

  -- a call of the world, judged and then written
  fitted_then : (v : Value) (o : Option (List Cell)) (n : ℕ) (w : World) →
      replied o v ps cs n w ≡ bind (fitted o v n w) (λ r. change (put_at ps cs r.news) >>= λ _. pure r.value)
  unfolding pure halt
  fitted_then v None n w = refl
  fitted_then v (Some news) n w = refl

  answered_then : (f : Option Native) (c : HostCall) (answers : List Answer) (n : ℕ) (w : World) →
      answered f c ps cs answers n w
      ≡ bind (judged_by f c cs answers n w) (λ r. change (put_at ps cs r.news) >>= λ _. pure r.value)
  answered_then f c [] n w = refl
  answered_then f c (Replied r ∷ answers) n w = fitted_then r.value (fits f r cs) n (world w.store (w.calls ++ c ∷ []) answers)
  answered_then f c (Refused kind ∷ answers) n w = refl

  pub asked_then : (f : Option Native) (c : HostCall) (n : ℕ) (w : World) →
      ask f c ps cs n w ≡ bind (judged f c cs n w) (λ r. change (put_at ps cs r.news) >>= λ _. pure r.value)
  unfolding ask judged
  asked_then f c n w = answered_then f c w.answers n w

-- what a native function does with its arguments
module _ (f : Native) (ps : List Place) (args : List Argument) where
  asks_world : (n : ℕ) (w : World) →
      ask (Some f) (host_call (native_number f) (values_of args) (cells_in args)) ps (cells_in args) n w
      ≡ bind (asked f args n w) (ends_with ps)
  unfolding asked ◌>>=◌ pure
  asks_world n w =
      asked_then ps (cells_in args) (Some f) (host_call (native_number f) (values_of args) (cells_in args)) n w
      ∙ bind_same (judged (Some f) (host_call (native_number f) (values_of args) (cells_in args)) (cells_in args) n w)
      (λ r. change (put_at ps (cells_in args) r.news) >>= λ _. pure r.value)
      (λ r. ends_with ps (of_reply (cells_in args) r))
      (reply_written ps (cells_in args))
      ∙ sym (bind_on (judged (Some f) (host_call (native_number f) (values_of args) (cells_in args)) (cells_in args) n w)
      (λ r. pure (of_reply (cells_in args) r)) (ends_with ps))

  does_it : (n : ℕ) (w : World) →
      does_native ps (cells_in args) (computes f args) n w ≡ bind (change (computed f args) n w) (ends_with ps)
  unfolding ◌>>=◌ ◌>>◌ change
  does_it n w =
      bind_same (in_run (computes f args w.store) n w)
      (λ d n w. bind (change (put_at ps (cells_in args) d.outs) n w) (λ _. tells d.out_of_range >> pure d.value))
      (λ d. ends_with ps (of_done (cells_in args) d))
      (done_written ps (cells_in args))
      ∙ sym (given_in_run (computes f args w.store) (of_done (cells_in args)) (ends_with ps) n w)

  chosen : (b : Bool) (n : ℕ) (w : World) →
      choose b (ask (Some f) (host_call (native_number f) (values_of args) (cells_in args)) ps (cells_in args))
      (does_native ps (cells_in args) (computes f args)) n w
      ≡ bind (choose b (asked f args) (change (computed f args)) n w) (ends_with ps)
  unfolding choose
  chosen true n w = asks_world n w
  chosen false n w = does_it n w

-- a native function, by what is lent
abbrev goes : Native → List Place → Paired → Act Value
goes f ps q =
    choose (asks f) (ask (Some f) (host_call (native_number f) (values_of q.0) q.1) ps q.1)
    (does_native ps q.1 (computes f q.0))

pub runs_same : (f : Native) (xs : List Operand) (n : ℕ) (w : World) → runs_native f xs n w ≡ runs_lent f xs n w
unfolding runs_lent outcome comes_to ◌>>=◌ change
runs_same f xs n w =
    sym (given_in_run (cells_at (places_in xs) w.store) (λ cs. (arguments xs cs, cs)) (goes f (places_in xs)) n w)
    ∙ ap (λ (o : Out Paired). bind (in_run o n w) (goes f (places_in xs))) (sym (lent_both xs w.store))
    ∙ given_in_run (lends xs w.store) (λ args. (args, cells_in args)) (goes f (places_in xs)) n w
    ∙ bind_same (in_run (lends xs w.store) n w)
    (λ args. goes f (places_in xs) (args, cells_in args))
    (λ args n w. bind (choose (asks f) (asked f args) (change (computed f args)) n w) (ends_with (places_in xs)))
    (λ args. chosen f (places_in xs) args (asks f))
    ∙ sym (bind_on (in_run (lends xs w.store) n w)
    (λ args. choose (asks f) (asked f args) (change (computed f args))) (ends_with (places_in xs)))
