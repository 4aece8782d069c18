-- A pass of code that stands for a source is a pass of the source.
use Rattle.std.proofs.Common.{◌≡◌, ℕ, ℤ, pos, Bool, true, false, List, [], ◌∷◌, Option, Some, None, refl, ap, ◌∙◌, subst}
use Rattle.std.specs.Prelude.{is_some}
use Rattle.std.specs.Bool.{MatchBool}
use Rattle.fx8.specs.Integers.{is_zero}
use Rattle.mql_meaning.specs.declared.store.SetInput.{SetInput}
use Rattle.mql_meaning.specs.declared.tree.Checked.{Checked}
use Rattle.mql_meaning.specs.declared.tree.Entry.{Entry}
use Rattle.mql_meaning.specs.declared.tree.Entry.TheVariants as entry
use Rattle.mql_meaning.specs.Means.{event}
use Rattle.mql_meaning.specs.Natives.{void_value}
use Rattle.stack_code.specs.declared.code.Code.{Code}
use Rattle.stack_code.specs.Machine.{program_of}
use Rattle.stack_follows.specs.Follows.{Follows}
use Rattle.stack_follows.specs.Stands.{Stands}
use Rattle.stack_machine.specs.declared.ends.End.{End}
use Rattle.stack_machine.specs.declared.ends.End.TheVariants as call
use Rattle.market_types.specs.declared.quote.Quote.{Quote}
use Rattle.tester_pass.specs.declared.result.PassEnd.{PassEnd}
use Rattle.tester_pass.specs.declared.result.PassEnd.TheVariants as end
use Rattle.tester_pass.specs.declared.result.PassResult.{PassResult}
use Rattle.tester_pass.specs.Pass.{Trial, of_source, of_code, Stage, Work, Calls, Happens, Does, GoesOn, Then, loud, Works, with_reason, Told, Quits, Finishes, Last, Proceeds, Onward, Rest, answer_of, Answered, AfterInit, Inits, AfterStart, first_stage, Passes}

-- each step of the one is one of the other
abbrev Into : {R : Type 0} → (Stage → R → Stage → Type 0) → (Stage → R → Stage → Type 0) → Type 0
Into {R} A B = (s : Stage) (r : R) (t : Stage) → A s r t → B s r t

abbrev ResultInto : (Stage → PassResult → Type 0) → (Stage → PassResult → Type 0) → Type 0
ResultInto A B = (s : Stage) (r : PassResult) → A s r → B s r

arms : {P Q P' Q' : Type 0} → (b : Bool) → (P → P') → (Q → Q') → MatchBool b P Q → MatchBool b P' Q'
arms true f g p = f p
arms false f g q = g q

goes_into : (B B' : Work) → Into B B' → (h : Option PassEnd) (m : Stage) (r : Option PassEnd) (t : Stage) →
    GoesOn h m B r t → GoesOn h m B' r t
goes_into B B' b None m r t p = b m r t p
goes_into B B' b (Some e) m r t p = p

then_into : (A A' B B' : Work) → Into A A' → Into B B' → Into (Then A B) (Then A' B')
then_into A A' B B' a b s r t p = (p.0, p.1, a s p.0 p.1 p.2, goes_into B B' b p.0 p.1 r t p.3)

last_into : (A B : Work) → Into A B → (e : PassEnd) → ResultInto (Last A e) (Last B e)
last_into A B a e s r p = (p.0, p.1, a s p.0 p.1 p.2, p.3)

-- code and a source have the same functions of events
has_same : (p : Checked) (code : Code) → program_of code ≡ record p { functions = [] } → (e : Entry) →
    event (program_of code) e ≡ event p e
has_same p code same entry.Start = ap (λ (q : Checked). q.entries.start) same
has_same p code same entry.Init = ap (λ (q : Checked). q.entries.init) same
has_same p code same entry.Tick = ap (λ (q : Checked). q.entries.tick) same
has_same p code same entry.Trade = ap (λ (q : Checked). q.entries.trade) same
has_same p code same entry.Tester = ap (λ (q : Checked). q.entries.tester) same
has_same p code same entry.Deinit = ap (λ (q : Checked). q.entries.deinit) same
has_same p code same entry.Stop = ap (λ (q : Checked). q.entries.stop) same

module _ (p : Checked) (code : Code) (stands : Stands p code) (follows : Follows p code) where
  abbrev x : Trial
  x = of_code code

  abbrev y : Trial
  y = of_source p

  calls_into : (e : Entry) (arg : ℤ) → Into (Calls x e arg) (Calls y e arg)
  calls_into e arg s r t c =
      record {
        made = c.made;
        got = c.got;
        turns = c.turns;
        means = (follows e arg s.steps _ _).0 c.means;
        quotes = c.quotes;
        loud = c.loud;
      }

  happens_into : (e : Entry) (arg : ℤ) → Into (Happens x e arg) (Happens y e arg)
  happens_into e arg s r t c =
      subst (λ f. MatchBool (is_some f) (Calls y e arg s r t) ((r ≡ call.Returned void_value) × (t ≡ s)))
      (has_same p code stands.tables e)
      (arms {P = Calls x e arg s r t} {P' = Calls y e arg s r t} (is_some (event (program_of code) e))
      (calls_into e arg s r t) (λ q. q) c)

  does_into : (e : Entry) (arg : ℤ) → Into (Does x e arg) (Does y e arg)
  does_into e arg s h t c = (c.0, happens_into e arg s c.0 t c.1, c.2)

  works_into : (q : Quote) → Into (Works x q) (Works y q)
  works_into q s r t c = arms q.loud (does_into entry.Tick (pos 0) (loud s q.time_ms) r t) (λ n. n) c

  told_into : (reason : ℤ) → Into (Told x reason) (Told y reason)
  told_into reason s r t c = does_into entry.Deinit reason (with_reason s reason) r t c

  quits_into : (reason : ℤ) → Into (Quits x reason) (Quits y reason)
  quits_into reason =
      then_into (Told x reason) (Told y reason) (Does x entry.Stop (pos 0)) (Does y entry.Stop (pos 0))
      (told_into reason) (does_into entry.Stop (pos 0))

  finishes_into : (reason : ℤ) → Into (Finishes x reason) (Finishes y reason)
  finishes_into reason =
      then_into (Does x entry.Tester (pos 0)) (Does y entry.Tester (pos 0)) (Quits x reason) (Quits y reason)
      (does_into entry.Tester (pos 0)) (quits_into reason)

  proceeds_into : (A B : Stage → PassResult → Type 0) → ResultInto A B → ResultInto (Proceeds x A) (Proceeds y B)
  proceeds_into A B a s r c =
      arms s.state.removal
      (last_into (Finishes x (pos 0)) (Finishes y (pos 0)) (finishes_into (pos 0)) end.Removed s r) (a s r) c

  onward_into : (A B : Stage → PassResult → Type 0) → ResultInto A B → (h : Option PassEnd) →
      ResultInto (Onward x A h) (Onward y B h)
  onward_into A B a None s r c = proceeds_into A B a s r c
  onward_into A B a (Some e) s r c = c

  rest_into : (quotes : List Quote) → ResultInto (Rest x quotes) (Rest y quotes)
  rest_into [] s r c =
      last_into (Finishes x (pos 1)) (Finishes y (pos 1)) (finishes_into (pos 1)) end.Completed s r c
  rest_into (q ∷ more) s r c = (
    c.0,
    c.1,
    works_into q s c.0 c.1 c.2,
    onward_into (Rest x more) (Rest y more) (rest_into more) c.0 c.1 r c.3,
  )

  answered_into : (quotes : List Quote) (answer : ℤ) → ResultInto (Answered x quotes answer) (Answered y quotes answer)
  answered_into quotes answer s r c =
      arms (is_zero answer) (proceeds_into (Rest x quotes) (Rest y quotes) (rest_into quotes) s r)
      (last_into (Quits x (pos 8)) (Quits y (pos 8)) (quits_into (pos 8)) (end.InitFailed answer) s r) c

  after_into : (quotes : List Quote) (e : End) → ResultInto (AfterInit x quotes e) (AfterInit y quotes e)
  after_into quotes (call.Returned v) s r c = answered_into quotes (answer_of v) s r c
  after_into quotes (call.Failed e) s r c = c
  after_into quotes call.Exhausted s r c = c
  after_into quotes call.Stopped s r c = c
  after_into quotes call.Stuck s r c = c

  started_into : (quotes : List Quote) (h : Option PassEnd) → ResultInto (AfterStart x quotes h) (AfterStart y quotes h)
  started_into quotes None s r c =
      (c.0, c.1, happens_into entry.Init (pos 0) s c.0 c.1 c.2, after_into quotes c.0 c.1 r c.3)
  started_into quotes (Some e) s r c = c

  pub same_pass : (set : List SetInput) (quotes : List Quote) (r : PassResult) → Passes x set quotes r →
      Passes y set quotes r
  same_pass set quotes r c =
      (c.0, c.1, does_into entry.Start (pos 0) (first_stage set) c.0 c.1 c.2, started_into quotes c.0 c.1 r c.3)
