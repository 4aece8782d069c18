-- A pass of a source comes to one result.
use Rattle.std.proofs.Common.{◌≡◌, ℕ, ℤ, pos, Bool, true, false, List, [], ◌∷◌, Option, Some, None, refl, sym, ap, ◌∙◌, subst}
use Rattle.std.specs.Bool.{MatchBool}
use Rattle.fx8.specs.Integers.{is_zero}
use Rattle.mql_mean.specs.declared.value.Value.{Value}
use Rattle.mql_meaning.specs.declared.store.Store.{Store}
use Rattle.mql_meaning.specs.declared.store.SetInput.{SetInput}
use Rattle.mql_meaning.specs.declared.tree.Checked.{Checked}
use Rattle.mql_meaning.specs.declared.tree.Entry.{Entry}
use Rattle.mql_meaning.specs.declared.tree.Entry.TheVariants as entry
use Rattle.mql_meaning.specs.Talk.{MeansTalks}
use Rattle.stack_machine.specs.declared.ends.End.{End}
use Rattle.stack_machine.specs.declared.ends.End.TheVariants as call
use Rattle.market_types.specs.declared.quote.Quote.{Quote}
use Rattle.tester_world.specs.World.{TesterState, TesterStep}
use Rattle.tester_pass.specs.declared.result.PassEnd.{PassEnd}
use Rattle.tester_pass.specs.declared.result.PassEnd.TheVariants as end
use Rattle.tester_pass.specs.declared.result.PassResult.{PassResult}
use Rattle.tester_pass.specs.Laws.{IsFunction, OneOutcome}
use Rattle.tester_pass.specs.Pass.{Trial, of_source, Stage, Work, Calls, Happens, Does, pass_end, GoesOn, Then, loud, Works, with_reason, Told, Quits, Finishes, ends_here, ended_by, Last, Proceeds, Onward, Rest, answer_of, Answered, AfterInit, Inits, AfterStart, first_stage, Passes}
use Rattle.tester_pass.proofs.OneRun.{told_once}

-- the tester's world
pub world_is_function : IsFunction TesterStep
world_is_function s c a b to to' p q = (p.answered ∙ sym q.answered, p.left ∙ sym q.left)

-- one end and one stage; a choice by one test; a result
abbrev One : {R : Type 0} → (Stage → R → Stage → Type 0) → Type 0
One {R} A = (s : Stage) (r r' : R) (t t' : Stage) → A s r t → A s r' t' → (r ≡ r') × (t ≡ t')

abbrev OneResult : (Stage → PassResult → Type 0) → Type 0
OneResult A = (s : Stage) (r r' : PassResult) → A s r → A s r' → r ≡ r'

both : {P Q P' Q' C : Type 0} → (b : Bool) → (P → P' → C) → (Q → Q' → C) → MatchBool b P Q → MatchBool b P' Q' → C
both true f g p p' = f p p'
both false f g q q' = g q q'

same_stage : (t t' : Stage) → t.store ≡ t'.store → t.steps ≡ t'.steps → t.state ≡ t'.state → t.quotes ≡ t'.quotes →
    t.loud ≡ t'.loud → t ≡ t'
same_stage t t' a b c d e =
    ap (λ (x : Store). record t { store = x }) a
    ∙ ap (λ (x : ℕ). record t { store = t'.store; steps = x }) b
    ∙ ap (λ (x : TesterState). record t { store = t'.store; steps = t'.steps; state = x }) c
    ∙ ap (λ (x : ℕ). record t' { quotes = x; loud = t.loud }) d
    ∙ ap (λ (x : ℕ). record t' { loud = x }) e

goes_once : (B : Work) → One B → (h : Option PassEnd) → One (λ (m : Stage) (r : Option PassEnd) (t : Stage). GoesOn h m B r t)
goes_once B b None m r r' t t' p q = b m r r' t t' p q
goes_once B b (Some e) m r r' t t' p q = (p.0 ∙ sym q.0, p.1 ∙ sym q.1)

then_once : (A B : Work) → One A → One B → One (Then A B)
then_once A B a b s r r' t t' p q =
    let o = a s p.0 q.0 p.1 q.1 p.2 q.2 in
    goes_once B b p.0 p.1 r r' t t' p.3
    (subst (λ h. GoesOn h p.1 B r' t') (sym o.0) (subst (λ (m : Stage). GoesOn q.0 m B r' t') (sym o.1) q.3))

last_once : (A : Work) → One A → (e : PassEnd) → OneResult (Last A e)
last_once A a e s r r' p q =
    let o = a s p.0 q.0 p.1 q.1 p.2 q.2 in
    p.3 ∙ ap (λ h. ends_here (ended_by h e) p.1) o.0 ∙ ap (λ (t : Stage). ends_here (ended_by q.0 e) t) o.1 ∙ sym q.3

module _ (talks : MeansTalks) (p : Checked) where
  abbrev x : Trial
  x = of_source p

  calls_once : (e : Entry) (arg : ℤ) → One (Calls x e arg)
  calls_once e arg s r r' t t' c d =
      let o = told_once TesterStep world_is_function talks p e arg s.store s.steps s.state t.state t'.state r r'
      t.store t'.store t.steps t'.steps
      (record { made = c.made; got = c.got; turns = c.turns; holds = c.means })
      (record { made = d.made; got = d.got; turns = d.turns; holds = d.means }) in
      (o.0, same_stage t t' o.2 o.1 o.3 (c.quotes ∙ sym d.quotes) (c.loud ∙ sym d.loud))

  happens_once : (e : Entry) (arg : ℤ) → One (Happens x e arg)
  happens_once e arg s r r' t t' =
      both (x.has e) (calls_once e arg s r r' t t') (λ a b. (a.0 ∙ sym b.0, a.1 ∙ sym b.1))

  does_once : (e : Entry) (arg : ℤ) → One (Does x e arg)
  does_once e arg s r r' t t' a b =
      let o = happens_once e arg s a.0 b.0 t t' a.1 b.1 in (a.2 ∙ ap pass_end o.0 ∙ sym b.2, o.1)

  works_once : (q : Quote) → One (Works x q)
  works_once q s r r' t t' =
      both q.loud (does_once entry.Tick (pos 0) (loud s q.time_ms) r r' t t')
      (λ a b. (a.0 ∙ sym b.0, a.1 ∙ sym b.1))

  told_once_here : (reason : ℤ) → One (Told x reason)
  told_once_here reason s r r' t t' = does_once entry.Deinit reason (with_reason s reason) r r' t t'

  quits_once : (reason : ℤ) → One (Quits x reason)
  quits_once reason =
      then_once (Told x reason) (Does x entry.Stop (pos 0)) (told_once_here reason) (does_once entry.Stop (pos 0))

  finishes_once : (reason : ℤ) → One (Finishes x reason)
  finishes_once reason =
      then_once (Does x entry.Tester (pos 0)) (Quits x reason) (does_once entry.Tester (pos 0)) (quits_once reason)

  proceeds_once : (A : Stage → PassResult → Type 0) → OneResult A → OneResult (Proceeds x A)
  proceeds_once A a s r r' =
      both s.state.removal (last_once (Finishes x (pos 0)) (finishes_once (pos 0)) end.Removed s r r') (a s r r')

  onward_once : (A : Stage → PassResult → Type 0) → OneResult A → (h : Option PassEnd) → OneResult (Onward x A h)
  onward_once A a None s r r' c d = proceeds_once A a s r r' c d
  onward_once A a (Some e) s r r' c d = c ∙ sym d

  rest_once : (quotes : List Quote) → OneResult (Rest x quotes)
  rest_once [] s r r' c d = last_once (Finishes x (pos 1)) (finishes_once (pos 1)) end.Completed s r r' c d
  rest_once (q ∷ more) s r r' c d =
      let o = works_once q s c.0 d.0 c.1 d.1 c.2 d.2 in
      onward_once (Rest x more) (rest_once more) c.0 c.1 r r' c.3
      (subst (λ h. Onward x (Rest x more) h c.1 r') (sym o.0)
      (subst (λ (t : Stage). Onward x (Rest x more) d.0 t r') (sym o.1) d.3))

  answered_once : (quotes : List Quote) (answer : ℤ) → OneResult (Answered x quotes answer)
  answered_once quotes answer s r r' =
      both (is_zero answer) (proceeds_once (Rest x quotes) (rest_once quotes) s r r')
      (last_once (Quits x (pos 8)) (quits_once (pos 8)) (end.InitFailed answer) s r r')

  after_once : (quotes : List Quote) (e : End) → OneResult (AfterInit x quotes e)
  after_once quotes (call.Returned v) s r r' c d = answered_once quotes (answer_of v) s r r' c d
  after_once quotes (call.Failed e) s r r' c d = c ∙ sym d
  after_once quotes call.Exhausted s r r' c d = c ∙ sym d
  after_once quotes call.Stopped s r r' c d = c ∙ sym d
  after_once quotes call.Stuck s r r' c d = c ∙ sym d

  inits_once : (quotes : List Quote) → OneResult (Inits x quotes)
  inits_once quotes s r r' c d =
      let o = happens_once entry.Init (pos 0) s c.0 d.0 c.1 d.1 c.2 d.2 in
      after_once quotes c.0 c.1 r r' c.3
      (subst (λ e. AfterInit x quotes e c.1 r') (sym o.0)
      (subst (λ (t : Stage). AfterInit x quotes d.0 t r') (sym o.1) d.3))

  started_once : (quotes : List Quote) (h : Option PassEnd) → OneResult (AfterStart x quotes h)
  started_once quotes None s r r' c d = inits_once quotes s r r' c d
  started_once quotes (Some e) s r r' c d = c ∙ sym d

  pub passes_once : (set : List SetInput) (quotes : List Quote) (r r' : PassResult) → Passes x set quotes r →
      Passes x set quotes r' → r ≡ r'
  passes_once set quotes r r' c d =
      let o = does_once entry.Start (pos 0) (first_stage set) c.0 d.0 c.1 d.1 c.2 d.2 in
      started_once quotes c.0 c.1 r r' c.3
      (subst (λ h. AfterStart x quotes h c.1 r') (sym o.0)
      (subst (λ (t : Stage). AfterStart x quotes d.0 t r') (sym o.1) d.3))

pub one_outcome : MeansTalks → OneOutcome
one_outcome talks p set quotes r r' a b = passes_once talks p set quotes r r' a b
