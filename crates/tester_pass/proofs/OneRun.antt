-- An event over a world that answers as a function of what was asked has one end.
use Rattle.std.proofs.Common.{◌≡◌, ℕ, ℤ, List, [], ◌∷◌, ◌++◌, refl, sym, ap, ◌∙◌, subst, append_assoc, append-nil}
use Rattle.std.proofs.lemmas.List.{append_cancel_left}
use Rattle.mql_mean.specs.declared.value.Value.{Value}
use Rattle.mql_mean.specs.declared.error.ErrorKind.{ErrorKind}
use Rattle.mql_mean.specs.declared.host.HostCall.{HostCall}
use Rattle.mql_mean.specs.Answer.{Answer}
use Rattle.mql_meaning.specs.declared.store.Store.{Store}
use Rattle.mql_meaning.specs.declared.tree.Checked.{Checked}
use Rattle.mql_meaning.specs.declared.tree.Entry.{Entry}
use Rattle.mql_meaning.specs.Changes.{Ended, Returned, Stopped}
use Rattle.mql_meaning.specs.Runs.{world}
use Rattle.mql_meaning.specs.Means.{Outcome, outcome, means}
use Rattle.mql_meaning.specs.Talk.{Talk, Gives, Over, Asks, hear, MeansTalks}
use Rattle.stack_world.specs.Turns.{Turns}
use Rattle.stack_machine.specs.declared.ends.End.{End}
use Rattle.stack_machine.specs.declared.ends.End.TheVariants as end
use Rattle.stack_machine.specs.Ends.{as_ended}
use Rattle.tester_pass.specs.Laws.{IsFunction}

one_end : (e e' : End) → as_ended e ≡ as_ended e' → e ≡ e'
one_end (end.Returned value) (end.Returned other) p = cc
one_end (end.Failed error) (end.Failed other) p =
    let kind : error.kind ≡ other.kind = cc in
    let line : error.line ≡ other.line = cc in
    ap (λ (k : ErrorKind). end.Failed (record { kind = k; line = error.line })) kind
    ∙ ap (λ (l : ℕ). end.Failed (record { kind = other.kind; line = l })) line
one_end end.Exhausted end.Exhausted p = refl
one_end end.Stopped end.Stopped p = refl
one_end end.Stuck end.Stuck p = refl
one_end (end.Returned value) (end.Failed error) p = cc
one_end (end.Returned value) end.Exhausted p = cc
one_end (end.Returned value) end.Stopped p = cc
one_end (end.Returned value) end.Stuck p = cc
one_end (end.Failed error) (end.Returned value) p = cc
one_end (end.Failed error) end.Exhausted p = cc
one_end (end.Failed error) end.Stopped p = cc
one_end (end.Failed error) end.Stuck p = cc
one_end end.Exhausted (end.Returned value) p = cc
one_end end.Exhausted (end.Failed error) p = cc
one_end end.Exhausted end.Stopped p = cc
one_end end.Exhausted end.Stuck p = cc
one_end end.Stopped (end.Returned value) p = cc
one_end end.Stopped (end.Failed error) p = cc
one_end end.Stopped end.Exhausted p = cc
one_end end.Stopped end.Stuck p = cc
one_end end.Stuck (end.Returned value) p = cc
one_end end.Stuck (end.Failed error) p = cc
one_end end.Stuck end.Exhausted p = cc
one_end end.Stuck end.Stopped p = cc

-- the calls that were made stand first
begins : (talk : Talk Value) (before : List HostCall) (rest : List Answer) →
    (more : List HostCall) × ((outcome (hear talk before rest)).world.calls ≡ before ++ more)
begins (Gives a n store) before rest = ([], sym (append-nil before))
begins (Over e n store) before rest = ([], sym (append-nil before))
begins (Asks call n store onward) before [] = (call ∷ [], refl)
begins (Asks call n store onward) before (answer ∷ rest) =
    let b = begins (onward answer) (before ++ call ∷ []) rest in
    (call ∷ b.0, b.1 ∙ append_assoc before (call ∷ []) b.0)

-- an outcome of these
abbrev pub over_with : Ended → ℕ → Store → List HostCall → List Answer → Outcome
over_with e n store calls left = record { ended = e; left = n; world = world store calls left }

-- an end: how a call ended, the steps left, its store, and the world after it
record Left (W : Type 0) : Type 0 where
  end : End
  steps : ℕ
  store : Store
  world : W

module _ {W : Type 0} (may : W → HostCall → Answer → W → Type 0) where
  -- a talk over the world's answers, behind calls that were made before, has this end
  record Hears (talk : Talk Value) (before : List HostCall) (w : W) (l : Left W) : Type 0 where
    made : List HostCall
    got : List Answer
    turns : Turns may w made got l.world
    is : outcome (hear talk before got) ≡ over_with (as_ended l.end) l.steps l.store (before ++ made) []

  abbrev Same : Left W → Left W → Type 0
  Same l l' = (l.end ≡ l'.end) × (l.steps ≡ l'.steps) × (l.store ≡ l'.store) × (l.world ≡ l'.world)

  -- where a talk is over nothing more was asked
  nothing_made : (w to : W) (made : List HostCall) (got : List Answer) → [] ≡ made → Turns may w made got to → w ≡ to
  nothing_made w to [] [] e t = t
  nothing_made w to [] (a ∷ got) e t = absurd t
  nothing_made w to (c ∷ made) got e t = cc

  no_more : (before made : List HostCall) → before ≡ before ++ made → [] ≡ made
  no_more before made e = append_cancel_left before [] made (append-nil before ∙ e)

  -- a talk that is over here: it made no call
  over_once : (before : List HostCall) (w : W) (l l' : Left W) (made : List HostCall) (got : List Answer)
      (made' : List HostCall) (got' : List Answer) (left left' : List Answer)
      → Turns may w made got l.world → Turns may w made' got' l'.world
      → (store : Store) (n : ℕ) (e : Ended)
      → over_with e n store before left ≡ over_with (as_ended l.end) l.steps l.store (before ++ made) []
      → over_with e n store before left' ≡ over_with (as_ended l'.end) l'.steps l'.store (before ++ made') []
      → Same l l'
  over_once before w l l' made got made' got' left left' t t' store n e p q = (
    one_end l.end l'.end (sym (ap (λ (o : Outcome). o.ended) p) ∙ ap (λ (o : Outcome). o.ended) q),
    sym (ap (λ (o : Outcome). o.left) p) ∙ ap (λ (o : Outcome). o.left) q,
    sym (ap (λ (o : Outcome). o.world.store) p) ∙ ap (λ (o : Outcome). o.world.store) q,
    sym (nothing_made w l.world made got (no_more before made (ap (λ (o : Outcome). o.world.calls) p)) t)
        ∙ nothing_made w l'.world made' got' (no_more before made' (ap (λ (o : Outcome). o.world.calls) q)) t',
  )

  -- the call that a talk asks first is the one that was made first
  first_made : (talk : Talk Value) (call c : HostCall) (before made : List HostCall) (got : List Answer) (o : Outcome)
      → outcome (hear talk (before ++ call ∷ []) got) ≡ o → o.world.calls ≡ before ++ c ∷ made → call ≡ c
  first_made talk call c before made got o is calls =
      let b = begins talk (before ++ call ∷ []) got in
      let all : before ++ (call ∷ b.0) ≡ before ++ (c ∷ made) =
      sym (append_assoc before (call ∷ []) b.0) ∙ sym b.1 ∙ ap (λ (o : Outcome). o.world.calls) is ∙ calls in
      let same : call ∷ b.0 ≡ c ∷ made = append_cancel_left before (call ∷ b.0) (c ∷ made) all in
      cc

  -- a talk that asks, where nothing was answered, made a call that was not answered
  unanswered : (before made : List HostCall) (call : HostCall) (w to : W) → before ++ call ∷ [] ≡ before ++ made
      → Turns may w made [] to → ⊥
  unanswered before [] call w to e t =
      let none : call ∷ [] ≡ [] = append_cancel_left before (call ∷ []) [] e in cc
  unanswered before (c ∷ made) call w to e t = t

  module _ (function : IsFunction may) where
    hears_once : (talk : Talk Value) (before : List HostCall) (w : W) (l l' : Left W) → Hears talk before w l
        → Hears talk before w l' → Same l l'
    hears_once (Gives a n store) before w l l' p q =
        over_once before w l l' p.made p.got q.made q.got p.got q.got p.turns q.turns store n (Returned a) p.is q.is
    hears_once (Over e n store) before w l l' p q =
        over_once before w l l' p.made p.got q.made q.got p.got q.got p.turns q.turns store n e p.is q.is
    hears_once (Asks call n store onward) before w l l' p q =
        asks (λ a w l l' p q. hears_once (onward a) (before ++ call ∷ []) w l l' p q)
        p.made p.got q.made q.got p.turns q.turns p.is q.is
      where
        asks : ((a : Answer) (w : W) (l l' : Left W) → Hears (onward a) (before ++ call ∷ []) w l
            → Hears (onward a) (before ++ call ∷ []) w l' → Same l l')
            → (made : List HostCall) (got : List Answer) (made' : List HostCall) (got' : List Answer)
            → Turns may w made got l.world → Turns may w made' got' l'.world
            → outcome (hear (Asks call n store onward) before got)
            ≡ over_with (as_ended l.end) l.steps l.store (before ++ made) []
            → outcome (hear (Asks call n store onward) before got')
            ≡ over_with (as_ended l'.end) l'.steps l'.store (before ++ made') []
            → Same l l'
        asks each made [] made' got' t t' p q =
            absurd (unanswered before made call w l.world (ap (λ (o : Outcome). o.world.calls) p) t)
        asks each made (a ∷ got) made' [] t t' p q =
            absurd (unanswered before made' call w l'.world (ap (λ (o : Outcome). o.world.calls) q) t')
        asks each [] (a ∷ got) made' (b ∷ got') t t' p q = absurd t
        asks each (c ∷ made) (a ∷ got) [] (b ∷ got') t t' p q = absurd t'
        asks each (c ∷ made) (a ∷ got) (d ∷ made') (b ∷ got') t t' p q =
            let first = first_made (onward a) call c before made got _ p refl in
            let other = first_made (onward b) call d before made' got' _ q refl in
            let one = function w call a b t.0 t'.0 (subst (λ x. may w x a t.0) (sym first) t.1)
            (subst (λ x. may w x b t'.0) (sym other) t'.1) in
            each a t.0 l l'
            (record {
              made = made;
              got = got;
              turns = t.2;
              is =
                  p ∙ ap (λ calls. over_with (as_ended l.end) l.steps l.store calls [])
                  (ap (λ x. before ++ x ∷ made) (sym first) ∙ sym (append_assoc before (call ∷ []) made));
            })
            (record {
              made = made';
              got = got';
              turns = subst (λ m. Turns may m made' got' l'.world) (sym one.1) t'.2;
              is =
                  subst (λ x. outcome (hear (onward x) (before ++ call ∷ []) got')
                  ≡ over_with (as_ended l'.end) l'.steps l'.store ((before ++ call ∷ []) ++ made') []) (sym one.0)
                  (q ∙ ap (λ calls. over_with (as_ended l'.end) l'.steps l'.store calls [])
                  (ap (λ x. before ++ x ∷ made') (sym other) ∙ sym (append_assoc before (call ∷ []) made')));
            })

-- for some calls that were made and answers that were got, which are turns of the world, a source means this end
pub record Told {W : Type 0} (may : W → HostCall → Answer → W → Type 0) (p : Checked) (entry : Entry) (arg : ℤ)
    (store : Store) (n : ℕ) (w w' : W) (e : End) (store' : Store) (n' : ℕ) : Type 0 where
  pub made : List HostCall
  pub got : List Answer
  pub turns : Turns may w made got w'
  pub holds : means p entry arg n (world store [] got) ≡ over_with (as_ended e) n' store' made []

-- what a source means over such a world is one end
module _ {W : Type 0} (may : W → HostCall → Answer → W → Type 0) (function : IsFunction may) (talks : MeansTalks) where
  pub told_once : (p : Checked) (entry : Entry) (arg : ℤ) (store : Store) (n : ℕ) (w w' w'' : W) (e e' : End)
      (store' store'' : Store) (n' n'' : ℕ) → Told may p entry arg store n w w' e store' n'
      → Told may p entry arg store n w w'' e' store'' n''
      → (e ≡ e') × (n' ≡ n'') × (store' ≡ store'') × (w' ≡ w'')
  told_once p entry arg store n w w' w'' e e' store' store'' n' n'' a b =
      let t = talks p entry arg n store in
      let l : Left W = record { end = e; steps = n'; store = store'; world = w' } in
      let l' : Left W = record { end = e'; steps = n''; store = store''; world = w'' } in
      hears_once may function t.0 [] w l l'
      (record { made = a.made; got = a.got; turns = a.turns; is = sym (t.1 [] a.got) ∙ a.holds })
      (record { made = b.made; got = b.got; turns = b.turns; is = sym (t.1 [] b.got) ∙ b.holds })
