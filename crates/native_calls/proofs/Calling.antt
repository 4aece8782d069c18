-- Calls of native functions over a world, part by part.
use Rattle.std.proofs.Common.{◌≡◌, ℕ, Bool, true, false, List, [], ◌∷◌, map, Some, None, Result, Ok, Err, refl, sym, ap, ◌∙◌, subst}
use Rattle.natives.specs.declared.native.Native.{Native}
use Rattle.natives.specs.declared.signature.LastError.TheVariants.{InvalidParameter}
use Rattle.natives.specs.Names.{native_number}
use Rattle.natives.specs.Signatures.{error_number}
use Rattle.mql_mean.specs.declared.host.HostCall.{HostCall}
use Rattle.mql_mean.specs.declared.value.Value.{Value}
use Rattle.mql_mean.specs.Answer.{Answer}
use Rattle.mql_meaning.specs.declared.place.Place.{Place}
use Rattle.mql_meaning.specs.declared.store.Store.{Store}
use Rattle.mql_meaning.specs.Changes.{Change, Done}
use Rattle.mql_meaning.specs.Cells.{weight}
use Rattle.mql_meaning.specs.Operands.{Operand}
use Rattle.mql_meaning.specs.References.{points, put_at, tells_status}
use Rattle.mql_meaning.specs.Natives.{Argument, whole}
use Rattle.mql_meaning.specs.Runs.{Act, ◌>>=◌, ◌>>◌, pure, change, choose}
use Rattle.mql_meaning.specs.Calls.{ask, asks, calls_native, host_call, last_error, places_in, runs_native, tells, values_of}
use Rattle.store_cells.specs.declared.fault.Fault.{Fault}
use Rattle.store_cells.specs.declared.fault.Fault.TheVariants as fault
use Rattle.store_cells.specs.Changes.{Leads}
use Rattle.stack_world.specs.declared.halt.Halt.{Halt}
use Rattle.stack_world.specs.Acts.{Acts, halted}
use Rattle.native_calls.specs.declared.calls.Kind.{Kind}
use Rattle.native_calls.specs.declared.calls.Kind.TheVariants as kind
use Rattle.native_calls.specs.declared.outcome.Fitting.{Fitting}
use Rattle.native_calls.specs.declared.outcome.Outcome.{Outcome}
use Rattle.native_calls.specs.Kinds.{by_change, calls_by, kind_of}
use Rattle.native_calls.specs.Lent.{LendsAll, cells_in, lends}
use Rattle.native_calls.specs.Outcomes.{asked, comes_to, computed, ends_with, judged, of_reply, outcome, runs_lent}
use Rattle.native_calls.specs.Written.{put_counted}
use Rattle.native_calls.proofs.Acting.{change_done, change_over, goes_off, goes_on, pure_done, same_acts}
use Rattle.native_calls.proofs.ByKind.{calls_same}
use Rattle.native_calls.proofs.Told.{asked_then, runs_same}

module _ {W : Type 0} (may : W → HostCall → Answer → W → Type 0) where
  -- one act and then another that looks at nothing of it
  pub then_goes : {A B : Type 0} (act : Act A) (next : Act B) (a : A) (r : Result B Halt) (n : ℕ)
      (old mid new : Store) (w m w' : W) → Acts may act (Ok a) n old mid w m → Acts may next r n mid new m w' →
      Acts may (act >> next) r n old new w w'
  unfolding ◌>>=◌ ◌>>◌
  then_goes act next a r n old mid new w m w' f g =
      same_acts may (act >> next) (act >>= λ _. next) r n old new w w' (λ v. refl)
      (goes_on may act (λ _. next) a r n old mid new w m w' f g)

  pub then_off : {A B : Type 0} (act : Act A) (next : Act B) (why : Halt) (n : ℕ) (old new : Store) (w w' : W) →
      Acts {A = A} may act (Err why) n old new w w' → Acts {A = B} may (act >> next) (Err why) n old new w w'
  unfolding ◌>>=◌ ◌>>◌
  then_off {A} {B} act next why n old new w w' f =
      same_acts may (act >> next) (act >>= λ _. next) (Err why) n old new w w' (λ v. refl)
      (goes_off may act (λ _. next) why n old new w w' f)

  -- the world is asked
  module _ (f : Native) (args : List Argument) (n : ℕ) (s : Store) (w w' : W) (call : HostCall)
      (same : call ≡ host_call (native_number f) (values_of args) (cells_in args)) where
    pub asked_goes : (r : Fitting) (counts : List ℕ) → counts ≡ map weight (cells_in args) →
        Acts {A = Fitting} may (judged (Some f) call (cells_in args)) (Ok r) n s s w w' →
        Acts {A = Outcome} may (asked f args)
        (Ok (record { value = r.value; news = r.news; counts = counts; out_of_range = false })) n s s w w'
    unfolding asked
    asked_goes r counts e h =
        subst (λ (ns : List ℕ). Acts {A = Outcome} may (asked f args)
        (Ok (record { value = r.value; news = r.news; counts = ns; out_of_range = false })) n s s w w') (sym e)
        (goes_on may (judged (Some f) (host_call (native_number f) (values_of args) (cells_in args)) (cells_in args))
        (λ r. pure (of_reply (cells_in args) r)) r (Ok (of_reply (cells_in args) r)) n s s s w w' w'
        (subst (λ (c : HostCall). Acts {A = Fitting} may (judged (Some f) c (cells_in args)) (Ok r) n s s w w') same h)
        (pure_done may (of_reply (cells_in args) r) n s w'))

    pub asked_off : (why : Halt) →
        Acts {A = Fitting} may (judged (Some f) call (cells_in args)) (Err why) n s s w w' →
        Acts {A = Outcome} may (asked f args) (Err why) n s s w w'
    unfolding asked
    asked_off why h =
        goes_off may (judged (Some f) (host_call (native_number f) (values_of args) (cells_in args)) (cells_in args))
        (λ r. pure (of_reply (cells_in args) r)) why n s s w w'
        (subst (λ (c : HostCall). Acts {A = Fitting} may (judged (Some f) c (cells_in args)) (Err why) n s s w w') same h)

  -- the last error is told
  pub tells_nothing : (b : Bool) (n : ℕ) (s : Store) (w : W) → b ≡ false → Acts may (tells b) (Ok tt) n s s w w
  tells_nothing b n s w e = subst (λ (b : Bool). Acts may (tells b) (Ok tt) n s s w w) (sym e) (pure_done may tt n s w)

  abbrev told_call : HostCall
  told_call = host_call last_error (whole (error_number InvalidParameter) ∷ []) []

  module _ (b : Bool) (n : ℕ) (s : Store) (w w' : W) (is : b ≡ true) (call : HostCall) (same : call ≡ told_call) where
    after_reply : Fitting → Act Value
    after_reply r = change (put_at [] [] r.news) >>= λ _. pure r.value

    pub tells_goes : (r : Fitting) → Acts {A = Fitting} may (judged None call []) (Ok r) n s s w w' →
        Acts may (tells b) (Ok tt) n s s w w'
    unfolding after_reply ◌>>=◌
    tells_goes r h =
        subst (λ (b : Bool). Acts may (tells b) (Ok tt) n s s w w') (sym is)
        (then_goes (ask None told_call [] []) (pure tt) r.value (Ok tt) n s s s w w' w'
        (same_acts may (ask None told_call [] []) (judged None told_call [] >>= after_reply) (Ok r.value) n s s w w'
        (λ v. asked_then [] [] None told_call n v)
        (goes_on may (judged None told_call []) after_reply r (Ok r.value) n s s s w w' w'
        (subst (λ (c : HostCall). Acts {A = Fitting} may (judged None c []) (Ok r) n s s w w') same h)
        (goes_on may (change (put_at [] [] r.news)) (λ _. pure r.value) tt (Ok r.value) n s s s w' w' w'
        (change_done may (put_at [] [] r.news) tt n s s w' refl) (pure_done may r.value n s w'))))
        (pure_done may tt n s w'))

    pub tells_off : (why : Halt) → Acts {A = Fitting} may (judged None call []) (Err why) n s s w w' →
        Acts {A = Unit {0}} may (tells b) (Err why) n s s w w'
    unfolding after_reply ◌>>=◌
    tells_off why h =
        subst (λ (b : Bool). Acts {A = Unit {0}} may (tells b) (Err why) n s s w w') (sym is)
        (then_off (ask None told_call [] []) (pure tt) why n s s w w'
        (same_acts may (ask None told_call [] []) (judged None told_call [] >>= after_reply) (Err why) n s s w w'
        (λ v. asked_then [] [] None told_call n v)
        (goes_off may (judged None told_call []) after_reply why n s s w w'
        (subst (λ (c : HostCall). Acts {A = Fitting} may (judged None c []) (Err why) n s s w w') same h))))

  -- what a native function comes to with arguments
  module _ (f : Native) (args : List Argument) (n : ℕ) (s : Store) (w w' : W) (b : Bool) (same : b ≡ asks f) where
    pub comes_asked : (r : Result Outcome Halt) → b ≡ true → Acts may (asked f args) r n s s w w' →
        Acts may (comes_to f args) r n s s w w'
    unfolding comes_to choose
    comes_asked r e h =
        same_acts may (comes_to f args) (asked f args) r n s s w w'
        (λ v. ap (λ (b : Bool). choose b (asked f args) (change (computed f args)) n v) (sym same ∙ e)) h

    comes_by_change : (r : Result Outcome Halt) → b ≡ false → Acts may (change (computed f args)) r n s s w w' →
        Acts may (comes_to f args) r n s s w w'
    unfolding comes_to choose
    comes_by_change r e h =
        same_acts may (comes_to f args) (change (computed f args)) r n s s w w'
        (λ v. ap (λ (b : Bool). choose b (asked f args) (change (computed f args)) n v) (sym same ∙ e)) h

  module _ (f : Native) (args : List Argument) (n : ℕ) (s : Store) (w : W) (b : Bool) (same : b ≡ asks f) where
    pub comes_computed : (o : Outcome) → b ≡ false → computed f args s ≡ Done o s →
        Acts may (comes_to f args) (Ok o) n s s w w
    comes_computed o e h = comes_by_change f args n s w w b same (Ok o) e (change_done may (computed f args) o n s s w h)

    pub comes_fault : (why : Fault) → b ≡ false → Leads (computed f args s) (Err why) s →
        Acts may (comes_to f args) (Err (halted why)) n s s w w
    comes_fault why e h =
        comes_by_change f args n s w w b same (Err (halted why)) e (change_over may (computed f args) why n s s w h)

  -- what it comes to with operands
  pub outcome_goes : (f : Native) (xs : List Operand) (args : List Argument) (r : Result Outcome Halt) (n : ℕ)
      (s : Store) (w w' : W) → lends xs s ≡ Done args s → Acts may (comes_to f args) r n s s w w' →
      Acts may (outcome f xs) r n s s w w'
  unfolding outcome
  outcome_goes f xs args r n s w w' e h =
      goes_on may (change (lends xs)) (λ args. comes_to f args) args r n s s s w w w'
      (change_done may (lends xs) args n s s w e) h

  lends_leads : (xs : List Operand) (why : Fault) (s : Store) → LendsAll xs (Err why) s → Leads (lends xs s) (Err why) s
  lends_leads xs (fault.End e) s h = h
  lends_leads xs fault.OutOfMemory s h = tt

  pub outcome_off : (f : Native) (xs : List Operand) (why : Fault) (n : ℕ) (s : Store) (w : W) →
      LendsAll xs (Err why) s → Acts may (outcome f xs) (Err (halted why)) n s s w w
  unfolding outcome
  outcome_off f xs why n s w h =
      goes_off may (change (lends xs)) (λ args. comes_to f args) (halted why) n s s w w
      (change_over may (lends xs) why n s s w (lends_leads xs why s h))

  -- it is written, and the last error told
  module _ (ps : List Place) (o : Outcome) (n : ℕ) (old new : Store) (w : W) where
    pub ends_fault : (why : Fault) → Leads (put_counted ps o.counts o.news old) (Err why) new →
        Acts may (ends_with ps o) (Err (halted why)) n old new w w
    unfolding ends_with
    ends_fault why h =
        then_off (change (put_counted ps o.counts o.news)) (tells o.out_of_range >> pure o.value) (halted why) n old new
        w w (change_over may (put_counted ps o.counts o.news) why n old new w h)

    pub ends_told : (w' : W) → put_counted ps o.counts o.news old ≡ Done tt new →
        Acts may (tells o.out_of_range) (Ok tt) n new new w w' →
        Acts may (ends_with ps o) (Ok o.value) n old new w w'
    unfolding ends_with
    ends_told w' e h =
        then_goes (change (put_counted ps o.counts o.news)) (tells o.out_of_range >> pure o.value) tt (Ok o.value) n
        old new new w w w' (change_done may (put_counted ps o.counts o.news) tt n old new w e)
        (then_goes (tells o.out_of_range) (pure o.value) tt (Ok o.value) n new new new w w' w' h
        (pure_done may o.value n new w'))

    pub ends_off : (why : Halt) (w' : W) → put_counted ps o.counts o.news old ≡ Done tt new →
        Acts {A = Unit {0}} may (tells o.out_of_range) (Err why) n new new w w' →
        Acts may (ends_with ps o) (Err why) n old new w w'
    unfolding ends_with
    ends_off why w' e h =
        then_goes (change (put_counted ps o.counts o.news)) (tells o.out_of_range >> pure o.value) tt (Err why) n
        old new new w w w' (change_done may (put_counted ps o.counts o.news) tt n old new w e)
        (then_off (tells o.out_of_range) (pure o.value) why n new new w w' h)

  -- both
  pub runs_goes : (f : Native) (xs : List Operand) (o : Outcome) (r : Result Value Halt) (n : ℕ) (old new : Store)
      (w m w' : W) → Acts may (outcome f xs) (Ok o) n old old w m →
      Acts may (ends_with (places_in xs) o) r n old new m w' → Acts may (runs_lent f xs) r n old new w w'
  unfolding runs_lent
  runs_goes f xs o r n old new w m w' g h =
      goes_on may (outcome f xs) (λ o. ends_with (places_in xs) o) o r n old old new w m w' g h

  pub runs_off : (f : Native) (xs : List Operand) (why : Halt) (n : ℕ) (s : Store) (w w' : W) →
      Acts {A = Outcome} may (outcome f xs) (Err why) n s s w w' →
      Acts may (runs_lent f xs) (Err why) n s s w w'
  unfolding runs_lent
  runs_off f xs why n s w w' h = goes_off may (outcome f xs) (λ o. ends_with (places_in xs) o) why n s s w w' h

  -- the call, by its kind
  by_a_change : (f : Change Value) (r : Result Value Fault) (n : ℕ) (s : Store) (w : W) → Leads (f s) r s →
      Acts may (change f) (by_change r) n s s w w
  by_a_change f (Ok v) n s w h = change_done may f v n s s w h
  by_a_change f (Err why) n s w h = change_over may f why n s s w h

  module _ (f : Native) (xs : List Operand) (n : ℕ) (k : Kind) (same : k ≡ kind_of f) where
    kind_is : (k' : Kind) → k ≡ k' → calls_native f xs ≡ calls_by k' f xs
    kind_is k' e = calls_same f xs ∙ ap (λ (k : Kind). calls_by k f xs) (sym same ∙ e)

    as_kind : (k' : Kind) (r : Result Value Halt) (old new : Store) (w w' : W) → k ≡ k' →
        Acts may (calls_by k' f xs) r n old new w w' → Acts may (calls_native f xs) r n old new w w'
    as_kind k' r old new w w' e h = subst (λ (act : Act Value). Acts may act r n old new w w') (sym (kind_is k' e)) h

    pub call_points : (r : Result Value Fault) (s : Store) (w : W) → k ≡ kind.Points → Leads (points xs s) r s →
        Acts may (calls_native f xs) (by_change r) n s s w w
    call_points r s w e h = as_kind kind.Points (by_change r) s s w w e (by_a_change (points xs) r n s w h)

    pub call_status : (r : Result Value Fault) (s : Store) (w : W) → k ≡ kind.TellsStatus →
        Leads (tells_status xs s) r s → Acts may (calls_native f xs) (by_change r) n s s w w
    call_status r s w e h = as_kind kind.TellsStatus (by_change r) s s w w e (by_a_change (tells_status xs) r n s w h)

    pub call_runs : (r : Result Value Halt) (old new : Store) (w w' : W) → k ≡ kind.OverArguments →
        Acts may (runs_lent f xs) r n old new w w' → Acts may (calls_native f xs) r n old new w w'
    call_runs r old new w w' e h =
        as_kind kind.OverArguments r old new w w' e
        (same_acts may (runs_native f xs) (runs_lent f xs) r n old new w w' (λ v. runs_same f xs n v) h)
