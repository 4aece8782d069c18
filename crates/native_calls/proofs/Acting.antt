-- Acts over a world, one after another.
use Rattle.std.proofs.Common.{◌≡◌, ℕ, List, [], ◌∷◌, ◌++◌, Option, Some, None, Result, Ok, Err, refl, sym, ap, subst, append-nil, append_assoc}
use Rattle.natives.specs.declared.native.Native.{Native}
use Rattle.mql_mean.specs.declared.error.ErrorKind.{ErrorKind}
use Rattle.mql_mean.specs.declared.host.HostCall.{HostCall}
use Rattle.mql_mean.specs.declared.host.Reply.{Reply}
use Rattle.mql_mean.specs.Answer.{Answer, Replied, Refused}
use Rattle.mql_meaning.specs.declared.cell.Cell.{Cell}
use Rattle.mql_meaning.specs.declared.store.Store.{Store}
use Rattle.mql_meaning.specs.Changes.{Change, Out, Done, line_of, top}
use Rattle.mql_meaning.specs.Runs.{World, world, Res, End, Act, bind, in_run, ◌>>=◌, pure, halt, change}
use Rattle.mql_meaning.specs.Calls.{fits}
use Rattle.store_cells.specs.declared.fault.End as ends
use Rattle.store_cells.specs.declared.fault.End.TheVariants as end
use Rattle.store_cells.specs.declared.fault.Fault.{Fault}
use Rattle.store_cells.specs.declared.fault.Fault.TheVariants as fault
use Rattle.store_cells.specs.Changes.{ended, Leads}
use Rattle.stack_world.specs.declared.halt.Halt.{Halt}
use Rattle.stack_world.specs.declared.halt.Halt.TheVariants as halt
use Rattle.stack_world.specs.Turns.{Turns}
use Rattle.stack_world.specs.Acts.{Acts, ActsOver, Came, halted}
use Rattle.native_calls.specs.declared.outcome.Fitting.{Fitting}
use Rattle.native_calls.specs.Outcomes.{fitted, judged}

module _ {W : Type 0} (may : W → HostCall → Answer → W → Type 0) where
  turns_on : (w m w' : W) (cs : List HostCall) (vs : List Answer) (cs' : List HostCall) (vs' : List Answer) → Turns may w cs vs m → Turns may m cs' vs' w' → Turns may w (cs ++ cs') (vs ++ vs') w'
  turns_on w m w' [] [] cs' vs' t u = subst (λ k. Turns may k cs' vs' w') (sym t) u
  turns_on w m w' [] (v ∷ vs) cs' vs' t u = absurd t
  turns_on w m w' (c ∷ cs) [] cs' vs' t u = absurd t
  turns_on w m w' (c ∷ cs) (v ∷ vs) cs' vs' t u = (t.0, t.1, turns_on t.0 m w' cs vs cs' vs' t.2 u)

  -- an act of which this is told asks nothing
  quiet_over : {A : Type 0} (act : Act A) (r : Result A Halt) (n : ℕ) (old new : Store) (w : W) →
      ((calls : List HostCall) (rest : List Answer) → Came (act n (world old calls rest)) r n new calls rest) →
      ActsOver may act r n old new w w
  quiet_over act r n old new w c = record {
    made = [];
    got = [];
    turns = refl;
    holds = λ calls rest.
        subst (λ (cs : List HostCall). Came (act n (world old calls rest)) r n new cs rest) (sym (append-nil calls)) (c calls rest);
  }

  pub over_acts : {A : Type 0} (act : Act A) (r : Result A Halt) (n : ℕ) (old new : Store) (w w' : W) →
      ActsOver may act r n old new w w' → Acts may act r n old new w w'
  over_acts act (Ok a) n old new w w' f = f
  over_acts act (Err (halt.End e)) n old new w w' f = f
  over_acts act (Err halt.Stopped) n old new w w' f = f
  over_acts act (Err halt.OutOfMemory) n old new w w' f = tt

  -- a change that is done, and one that ends the run
  pub change_done : {A : Type 0} (f : Change A) (a : A) (n : ℕ) (old new : Store) (w : W) → f old ≡ Done a new →
      Acts may (change f) (Ok a) n old new w w
  unfolding change
  change_done f a n old new w e =
      quiet_over (change f) (Ok a) n old new w (λ calls rest. ap (λ (o : Out _). in_run o n (world old calls rest)) e)

  pub change_over : {A : Type 0} (f : Change A) (why : Fault) (n : ℕ) (old new : Store) (w : W) →
      Leads (f old) (Err why) new → Acts {A = A} may (change f) (Err (halted why)) n old new w w
  unfolding change
  change_over f (fault.End e) n old new w h =
      quiet_over (change f) (Err (halt.End e)) n old new w (λ calls rest. ap (λ (o : Out _). in_run o n (world old calls rest)) h)
  change_over f fault.OutOfMemory n old new w h = tt

  pub pure_done : {A : Type 0} (a : A) (n : ℕ) (s : Store) (w : W) → Acts may (pure a) (Ok a) n s s w w
  unfolding pure
  pure_done a n s w = quiet_over (pure a) (Ok a) n s s w (λ calls rest. refl)

  -- acts that are the same
  same_over : {A : Type 0} (act act' : Act A) (r : Result A Halt) (n : ℕ) (old new : Store) (w w' : W) →
      ((v : World) → act n v ≡ act' n v) → ActsOver may act' r n old new w w' → ActsOver may act r n old new w w'
  same_over act act' r n old new w w' e f = record {
    made = f.made;
    got = f.got;
    turns = f.turns;
    holds = λ calls rest.
        subst (λ (x : Res _). Came x r n new (calls ++ f.made) rest) (sym (e (world old calls (f.got ++ rest)))) (f.holds calls rest);
  }

  pub same_acts : {A : Type 0} (act act' : Act A) (r : Result A Halt) (n : ℕ) (old new : Store) (w w' : W) →
      ((v : World) → act n v ≡ act' n v) → Acts may act' r n old new w w' → Acts may act r n old new w w'
  same_acts act act' (Ok a) n old new w w' e f = same_over act act' (Ok a) n old new w w' e f
  same_acts act act' (Err (halt.End x)) n old new w w' e f = same_over act act' (Err (halt.End x)) n old new w w' e f
  same_acts act act' (Err halt.Stopped) n old new w w' e f = same_over act act' (Err halt.Stopped) n old new w w' e f
  same_acts act act' (Err halt.OutOfMemory) n old new w w' e f = tt

  -- an act that goes on, and one that does not
  goes_over : {A B : Type 0} (act : Act A) (next : A → Act B) (a : A) (r : Result B Halt) (n : ℕ)
      (old mid new : Store) (w m w' : W) → ActsOver may act (Ok a) n old mid w m →
      ActsOver may (next a) r n mid new m w' → ActsOver may (act >>= next) r n old new w w'
  unfolding ◌>>=◌
  goes_over act next a r n old mid new w m w' f g = record {
    made = f.made ++ g.made;
    got = f.got ++ g.got;
    turns = turns_on w m w' f.made f.got g.made g.got f.turns g.turns;
    holds = λ calls rest.
        subst (λ (l : List Answer). Came (bind (act n (world old calls l)) next) r n new (calls ++ (f.made ++ g.made)) rest)
        (sym (append_assoc f.got g.got rest))
        (subst (λ (cs : List HostCall). Came (bind (act n (world old calls (f.got ++ (g.got ++ rest)))) next) r n new cs rest)
        (append_assoc calls f.made g.made)
        (subst (λ (x : Res _). Came (bind x next) r n new ((calls ++ f.made) ++ g.made) rest)
        (sym (f.holds calls (g.got ++ rest))) (g.holds (calls ++ f.made) rest)));
  }

  pub goes_on : {A B : Type 0} (act : Act A) (next : A → Act B) (a : A) (r : Result B Halt) (n : ℕ)
      (old mid new : Store) (w m w' : W) → Acts may act (Ok a) n old mid w m → Acts may (next a) r n mid new m w' →
      Acts may (act >>= next) r n old new w w'
  goes_on act next a (Ok b) n old mid new w m w' f g = goes_over act next a (Ok b) n old mid new w m w' f g
  goes_on act next a (Err (halt.End x)) n old mid new w m w' f g = goes_over act next a (Err (halt.End x)) n old mid new w m w' f g
  goes_on act next a (Err halt.Stopped) n old mid new w m w' f g = goes_over act next a (Err halt.Stopped) n old mid new w m w' f g
  goes_on act next a (Err halt.OutOfMemory) n old mid new w m w' f g = tt

  pub goes_off : {A B : Type 0} (act : Act A) (next : A → Act B) (why : Halt) (n : ℕ) (old new : Store) (w w' : W) →
      Acts {A = A} may act (Err why) n old new w w' → Acts {A = B} may (act >>= next) (Err why) n old new w w'
  unfolding ◌>>=◌
  goes_off act next (halt.End e) n old new w w' f = record {
    made = f.made;
    got = f.got;
    turns = f.turns;
    holds = λ calls rest. ap (λ (x : Res _). bind x next) (f.holds calls rest);
  }
  goes_off act next halt.Stopped n old new w w' f = record {
    made = f.made;
    got = f.got;
    turns = f.turns;
    holds = λ calls rest. ap (λ (x : Res _). bind x next) (f.holds calls rest);
  }
  goes_off act next halt.OutOfMemory n old new w w' f = tt

  -- what the world answers to a call
  module _ (f : Option Native) (call : HostCall) (cs : List Cell) (n : ℕ) (s : Store) (w w' : W) where
    pub reply_fits : (reply : Reply) (news : List Cell) → may w call (Replied reply) w' → Some news ≡ fits f reply cs →
        Acts {A = Fitting} may (judged f call cs) (Ok (record { value = reply.value; news = news })) n s s w w'
    unfolding judged pure halt
    reply_fits reply news m e = record {
      made = call ∷ [];
      got = Replied reply ∷ [];
      turns = (w', m, refl);
      holds = λ calls rest.
          ap (λ (o : Option (List Cell)). fitted o reply.value n (world s (calls ++ call ∷ []) rest)) (sym e);
    }

    pub reply_unfit : (reply : Reply) → may w call (Replied reply) w' → None ≡ fits f reply cs →
        Acts {A = Fitting} may (judged f call cs) (Err halt.Stopped) n s s w w'
    unfolding judged pure halt
    reply_unfit reply m e = record {
      made = call ∷ [];
      got = Replied reply ∷ [];
      turns = (w', m, refl);
      holds = λ calls rest.
          ap (λ (o : Option (List Cell)). fitted o reply.value n (world s (calls ++ call ∷ []) rest)) (sym e);
    }

    pub refused : (kind : ErrorKind) (e : ends.End) → may w call (Refused kind) w' →
        e ≡ end.Failed (record { kind = kind; line = line_of (top s) }) →
        Acts {A = Fitting} may (judged f call cs) (Err (halt.End e)) n s s w w'
    unfolding judged pure halt
    refused kind e m h = record {
      made = call ∷ [];
      got = Refused kind ∷ [];
      turns = (w', m, refl);
      holds = λ calls rest.
          ap (λ (x : ends.End). End (ended x) n (world s (calls ++ call ∷ []) rest)) (sym h);
    }
