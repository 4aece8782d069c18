-- What is printed has the time of the last loud quote.
use Rattle.std.proofs.Common.{◌≡◌, ◌≤◌, ◌<◌, ℕ, ◌+◌, ℤ, pos, Bool, true, false, List, [], ◌∷◌, ◌++◌, Option, Some, None, Result, Ok, Err, refl, sym, ap, ◌∙◌, subst, arith}
use Rattle.std.specs.Prelude.{All, nat_le, ◌-ℤ◌}
use Rattle.std.specs.Bool.{MatchBool}
use Rattle.std.proofs.lemmas.List.Elements.{All-push}
use Rattle.std.proofs.lemmas.Int.{ints}
use Rattle.fx8.specs.declared.fix_fault.FixFault.{FixFault}
use Rattle.fx8.specs.Integers.{is_zero}
use Rattle.mql_mean.specs.declared.value.Value.{Value}
use Rattle.mql_mean.specs.declared.value.Value as row
use Rattle.mql_mean.specs.declared.host.HostCall.{HostCall}
use Rattle.mql_mean.specs.Answer.{Answer}
use Rattle.mql_mean.specs.declared.error.ErrorKind.TheVariants.{PrintsExhausted}
use Rattle.natives.specs.Names.{native_at}
use Rattle.mql_meaning.specs.declared.tree.Entry.{Entry}
use Rattle.mql_meaning.specs.declared.tree.Entry.TheVariants as entry
use Rattle.mql_meaning.specs.Changes.{either}
use Rattle.mql_meaning.specs.declared.store.SetInput.{SetInput}
use Rattle.mql_meaning.specs.Texts.{printed}
use Rattle.mql_meaning.specs.Formats.{format}
use Rattle.market_types.specs.declared.quote.Quote.{Quote}
use Rattle.market_data.specs.Quotes.{IsQuote}
use Rattle.report.specs.Times.{IsReportTime}
use Rattle.stack_world.specs.Turns.{Turns}
use Rattle.stack_machine.specs.declared.ends.End.{End}
use Rattle.tester_world.specs.declared.asked.Asked.{Asked}
use Rattle.tester_world.specs.declared.asked.Asked.TheVariants as asks
use Rattle.tester_world.specs.declared.printed.Printed.{Printed}
use Rattle.tester_world.specs.Asked.{asked_by}
use Rattle.tester_world.specs.Journal.{journal_bytes, line_bytes, most_bytes}
use Rattle.tester_world.specs.World.{TesterState, TesterStep, Response, gives, refuses, nothing, first_number, responds, response, prints, prints_text, prints_values, prints_result, prints_format, prints_formatted, after_information, with_line, with_last_error, out_of_range}
use Rattle.tester_pass.specs.declared.result.PassEnd.{PassEnd}
use Rattle.tester_pass.specs.declared.result.PassResult.{PassResult}
use Rattle.tester_pass.specs.Pass.{Trial, Stage, Work, Calls, Happens, Does, GoesOn, Then, Works, Told, Quits, Finishes, Last, with_reason, loud, first_stage}
use Rattle.tester_pass.specs.Laws.{InTime, StandsInTime}

-- a state whose time and whose lines a report may have
abbrev pub Timed : TesterState → Type 0
Timed s = IsReportTime s.time × All (λ (printed : Printed). IsReportTime printed.time_ms) s.prints

either_way : {P Q R : Type 0} → (b : Bool) → (P → R) → (Q → R) → MatchBool b P Q → R
either_way true f g p = f p
either_way false f g q = g q

chosen : (b : Bool) (x y : Response) → Timed x.state → Timed y.state → Timed (either b x y).state
chosen true x y p q = p
chosen false x y p q = q

chosen_state : (b : Bool) (x y : TesterState) → Timed x → Timed y → Timed (either b x y)
chosen_state true x y p q = p
chosen_state false x y p q = q

line_timed : (s : TesterState) (text : List ℕ) → Timed s → Timed (prints s text).state
line_timed s text h =
    chosen (nat_le (journal_bytes s.prints + line_bytes text) most_bytes) (gives nothing (with_line s text))
    (refuses PrintsExhausted s) (
      h.0,
      All-push (λ (printed : Printed). IsReportTime printed.time_ms) s.prints
          (record { time_ms = s.time; text = text }) h.1 h.0,
    ) h

text_timed : (s : TesterState) (text : Option (List ℕ)) → Timed s → Timed (prints_text s text).state
text_timed s None h = h
text_timed s (Some text) h = line_timed s text h

result_timed : (s : TesterState) (text : Result (List ℕ) FixFault) → Timed s → Timed (prints_result s text).state
result_timed s (Ok text) h = line_timed s text h
result_timed s (Err fault) h = h

formatted_timed : (s : TesterState) (vs : List Value) → Timed s → Timed (prints_formatted s vs).state
formatted_timed s [] h = h
formatted_timed s (row.Str text ∷ vs) h = result_timed s (format text vs) h
formatted_timed s (row.Num k x ∷ vs) h = h
formatted_timed s (row.Dbl x ∷ vs) h = h
formatted_timed s (row.Ptr p ∷ vs) h = h
formatted_timed s (row.Arr' n xs ∷ vs) h = h
formatted_timed s (row.Rec' n xs ∷ vs) h = h

information_timed : (s : TesterState) (x : ℤ) → Timed s → Timed (after_information s x)
information_timed s x h =
    chosen_state (is_zero x) s (either (is_zero (x -ℤ pos 1)) s (with_last_error s out_of_range)) h
    (chosen_state (is_zero (x -ℤ pos 1)) s (with_last_error s out_of_range) h h)

responds_timed : (s : TesterState) (asked : Asked) (vs : List Value) → Timed s → Timed (responds s asked vs).state
responds_timed s asks.Print vs h = text_timed s (printed vs) h
responds_timed s asks.PrintFormat vs h = formatted_timed s vs h
responds_timed s asks.MathRand vs h = h
responds_timed s asks.MathSrand vs h = h
responds_timed s asks.Time vs h = h
responds_timed s asks.ExpertRemove vs h = h
responds_timed s asks.GetLastError vs h = h
responds_timed s asks.ResetLastError vs h = h
responds_timed s asks.SetLastError vs h = h
responds_timed s asks.Symbol vs h = h
responds_timed s asks.Period vs h = h
responds_timed s asks.UninitializeReason vs h = h
responds_timed s asks.MqlInfoInteger vs h = information_timed s (first_number vs) h
responds_timed s asks.Missing vs h = h

step_timed : (s after : TesterState) (call : HostCall) (answer : Answer) → Timed s → TesterStep s call answer after →
    Timed after
unfolding response
step_timed s after call answer h step =
    subst Timed (sym step.left) (responds_timed s (asked_by (native_at call.id)) call.args h)

turns_timed : (s after : TesterState) (made : List HostCall) (got : List Answer) → Timed s →
    Turns TesterStep s made got after → Timed after
turns_timed s after [] [] h t = subst Timed t h
turns_timed s after (call ∷ made) (answer ∷ got) h t =
    turns_timed t.0 after made got (step_timed s t.0 call answer h t.1) t.2
turns_timed s after [] (answer ∷ got) h t = absurd t
turns_timed s after (call ∷ made) [] h t = absurd t

-- a part of the work keeps it
abbrev pub Keeps : Work → Type 0
Keeps A = (s : Stage) (halt : Option PassEnd) (t : Stage) → A s halt t → StandsInTime s → StandsInTime t

pub happens_timed : (x : Trial) (entry : Entry) (arg : ℤ) (s t : Stage) (e : End) → Happens x entry arg s e t →
    StandsInTime s → StandsInTime t
happens_timed x entry arg s t e p h =
    either_way {P = Calls x entry arg s e t} (x.has entry) (λ c. turns_timed s.state t.state c.made c.got h c.turns)
    (λ q. subst StandsInTime (sym q.1) h) p

pub does_timed : (x : Trial) (entry : Entry) (arg : ℤ) → Keeps (Does x entry arg)
does_timed x entry arg s halt t p h = happens_timed x entry arg s t p.0 p.1 h

goes_timed : (B : Work) → Keeps B → (h : Option PassEnd) (m : Stage) (halt : Option PassEnd) (t : Stage) →
    GoesOn h m B halt t → StandsInTime m → StandsInTime t
goes_timed B b None m halt t p h = b m halt t p h
goes_timed B b (Some e) m halt t p h = subst StandsInTime (sym p.1) h

then_timed : (A B : Work) → Keeps A → Keeps B → Keeps (Then A B)
then_timed A B a b s halt t p h = goes_timed B b p.0 p.1 halt t p.3 (a s p.0 p.1 p.2 h)

told_timed : (x : Trial) (reason : ℤ) → Keeps (Told x reason)
told_timed x reason s halt t p h = does_timed x entry.Deinit reason (with_reason s reason) halt t p h

pub quits_timed : (x : Trial) (reason : ℤ) → Keeps (Quits x reason)
quits_timed x reason =
    then_timed (Told x reason) (Does x entry.Stop (pos 0)) (told_timed x reason) (does_timed x entry.Stop (pos 0))

pub finishes_timed : (x : Trial) (reason : ℤ) → Keeps (Finishes x reason)
finishes_timed x reason =
    then_timed (Does x entry.Tester (pos 0)) (Quits x reason) (does_timed x entry.Tester (pos 0))
    (quits_timed x reason)

-- the time of a quote is one of a report
quote_time : (q : Quote) → IsQuote q → IsReportTime q.time_ms
quote_time q is =
    record { from_1970 = omega (arith, ints, is.time.from); to_2999 = omega (arith, ints, is.time.to) }

pub works_timed : (x : Trial) (q : Quote) → IsQuote q → Keeps (Works x q)
works_timed x q is s halt t p h =
    either_way {P = Does x entry.Tick (pos 0) (loud s q.time_ms) halt t} q.loud
    (λ d. does_timed x entry.Tick (pos 0) (loud s q.time_ms) halt t d (quote_time q is, h.1))
    (λ n. subst StandsInTime (sym n.1) h) p

-- so do the lines of a result
last_timed : (A : Work) → Keeps A → (e : PassEnd) (s : Stage) (r : PassResult) → Last A e s r → StandsInTime s →
    InTime r
last_timed A a e s r p h = subst InTime (sym p.3) (a s p.0 p.1 p.2 h).1

pub finished_timed : (x : Trial) (reason : ℤ) (e : PassEnd) (s : Stage) (r : PassResult) →
    Last (Finishes x reason) e s r → StandsInTime s → InTime r
finished_timed x reason e s r = last_timed (Finishes x reason) (finishes_timed x reason) e s r

pub quit_timed : (x : Trial) (reason : ℤ) (e : PassEnd) (s : Stage) (r : PassResult) →
    Last (Quits x reason) e s r → StandsInTime s → InTime r
quit_timed x reason e s r = last_timed (Quits x reason) (quits_timed x reason) e s r

-- nothing is printed at first
pub first_timed : (set : List SetInput) (s : Stage) → s ≡ first_stage set → StandsInTime s
first_timed set s e =
    subst StandsInTime (sym e)
    (record { from_1970 = omega (arith, ints); to_2999 = omega (arith, ints) }, λ k d lt. absurd (omega (arith, lt)))
