-- A pass of the tester without an account: Start, OnInit, the quotes in turn with OnTick at each loud one,
-- OnTester, OnDeinit and Stop (MetaTrader 5 Help, Strategy Testing; MQL5 Reference, Event Handling).
use Rattle.std.specs.Prelude.{◌≡◌, ℕ, ◌+◌, ℤ, pos, Bool, true, false, is_some, List, [], ◌∷◌, Option, Some, None}
use Rattle.std.specs.Bool.{MatchBool}
use Rattle.fx8.specs.declared.int_kind.IntKind.TheVariants.{Int}
use Rattle.fx8.specs.Integers.{wrapped, is_zero}
use Rattle.mql_mean.specs.declared.value.Value.{Value, Num}
use Rattle.mql_mean.specs.declared.host.HostCall.{HostCall}
use Rattle.mql_mean.specs.Answer.{Answer}
use Rattle.mql_meaning.specs.declared.store.Store.{Store}
use Rattle.mql_meaning.specs.declared.store.SetInput.{SetInput}
use Rattle.mql_meaning.specs.declared.tree.Checked.{Checked}
use Rattle.mql_meaning.specs.declared.tree.Entry.{Entry}
use Rattle.mql_meaning.specs.declared.tree.Entry.TheVariants as entry
use Rattle.mql_meaning.specs.Changes.{either}
use Rattle.mql_meaning.specs.Frames.{opening}
use Rattle.mql_meaning.specs.Natives.{void_value}
use Rattle.mql_meaning.specs.Runs.{World, world}
use Rattle.mql_meaning.specs.Means.{Outcome, means, event}
use Rattle.stack_code.specs.declared.code.Code.{Code}
use Rattle.stack_code.specs.Machine.{Gives, program_of}
use Rattle.stack_world.specs.Turns.{Turns}
use Rattle.stack_machine.specs.declared.ends.End.{End}
use Rattle.stack_machine.specs.declared.ends.End.TheVariants as call
use Rattle.stack_machine.specs.Ends.{as_ended}
use Rattle.market_types.specs.declared.quote.Quote.{Quote}
use Rattle.tester_world.specs.World.{TesterState, TesterStep, opening_state, at_time}
use Rattle.tester_world.specs.World as tester
use Rattle.tester_pass.specs.declared.result.PassEnd.{PassEnd}
use Rattle.tester_pass.specs.declared.result.PassEnd.TheVariants as end
use Rattle.tester_pass.specs.declared.result.PassResult.{PassResult}

-- what is tested: what its events come to, and which of their functions it has
pub record Trial : Type 1 where
  pub means : Entry → ℤ → ℕ → World → Outcome → Type 0
  pub has : Entry → Bool

-- a source is tested by what it means, and code by what the machine makes of it
abbrev pub of_source : Checked → Trial
of_source p = record { means = λ e arg n w o. means p e arg n w ≡ o; has = λ e. is_some (event p e) }

abbrev pub of_code : Code → Trial
of_code code = record { means = Gives code; has = λ e. is_some (event (program_of code) e) }

-- where a pass stands: the expert's store, the steps that are left for all its calls, what it sees of the
-- tester, how many quotes were taken, and how many of them were loud
pub record Stage : Type 0 where
  pub store : Store
  pub steps : ℕ
  pub state : TesterState
  pub quotes : ℕ
  pub loud : ℕ

-- a part of the work of a pass: from a stage to an end of the pass, if it is one, and a stage
abbrev pub Work : Type 1
Work = Stage → Option PassEnd → Stage → Type 0

-- how the end of a call ends the pass, if it does
abbrev pub pass_end : End → Option PassEnd
pass_end (call.Returned v) = None
pass_end (call.Failed e) = Some (end.Error e)
pass_end call.Exhausted = Some end.Exhausted
pass_end call.Stopped = Some end.Stopped
pass_end call.Stuck = Some end.Stuck

-- one part of the work and then another, which an end leaves out
abbrev pub GoesOn : Option PassEnd → Stage → Work → Option PassEnd → Stage → Type 0
GoesOn None m B halt t = B m halt t
GoesOn (Some e) m B halt t = (halt ≡ Some e) × (t ≡ m)

abbrev pub Then : Work → Work → Work
Then A B s halt t = (h : Option PassEnd) × (m : Stage) × A s h m × GoesOn h m B halt t

-- a call of an event's function: for the calls that it makes of the tester, and the answers that it gets,
-- which are the tester's in turn, it comes to this end, and leaves this store and so many steps
pub record Calls (x : Trial) (entry : Entry) (arg : ℤ) (s : Stage) (e : End) (t : Stage) : Type 0 where
  pub made : List HostCall
  pub got : List Answer
  pub turns : Turns TesterStep s.state made got t.state
  pub means : x.means entry arg s.steps (world s.store [] got)
      (record { ended = as_ended e; left = t.steps; world = world t.store made [] })
  pub quotes : t.quotes ≡ s.quotes
  pub loud : t.loud ≡ s.loud

-- a function that is absent is skipped
abbrev pub Happens : Trial → Entry → ℤ → Stage → End → Stage → Type 0
Happens x entry arg s e t =
    MatchBool (x.has entry) (Calls x entry arg s e t) ((e ≡ call.Returned void_value) × (t ≡ s))

abbrev pub Does : Trial → Entry → ℤ → Work
Does x entry arg s halt t = (e : End) × Happens x entry arg s e t × (halt ≡ pass_end e)

-- a silent quote is counted alone; the time of a loud one is the tester's
abbrev pub silent : Stage → Stage
silent s = record s { quotes = s.quotes + 1 }

abbrev pub loud : Stage → ℤ → Stage
loud s time = record s { state = at_time s.state time; quotes = s.quotes + 1; loud = s.loud + 1 }

-- the work of a quote: OnTick at a loud one
abbrev pub Works : Trial → Quote → Work
Works x quote s halt t =
    MatchBool quote.loud (Does x entry.Tick (pos 0) (loud s quote.time_ms) halt t)
    ((halt ≡ None) × (t ≡ silent s))

-- the expert ends for a reason, which it is told: OnDeinit, and Stop
abbrev pub with_reason : Stage → ℤ → Stage
with_reason s reason = record s { state = tester.with_reason s.state reason }

abbrev pub Told : Trial → ℤ → Work
Told x reason s halt t = Does x entry.Deinit reason (with_reason s reason) halt t

abbrev pub Quits : Trial → ℤ → Work
Quits x reason = Then (Told x reason) (Does x entry.Stop (pos 0))

-- behind the quotes: OnTester, and the end for a reason
abbrev pub Finishes : Trial → ℤ → Work
Finishes x reason = Then (Does x entry.Tester (pos 0)) (Quits x reason)

-- what a pass comes to that ends here
abbrev pub ends_here : PassEnd → Stage → PassResult
ends_here end s = record { end = end; prints = s.state.prints; quotes = s.quotes; loud = s.loud }

abbrev pub ended_by : Option PassEnd → PassEnd → PassEnd
ended_by None end = end
ended_by (Some other) end = other

-- the last part of the work, and what the pass then comes to
abbrev pub Last : Work → PassEnd → Stage → PassResult → Type 0
Last A end s result =
    (halt : Option PassEnd) × (t : Stage) × A s halt t × (result ≡ ends_here (ended_by halt end) t)

-- where the expert asked for its removal no further quote is taken, and it is told the reason 0
abbrev pub Proceeds : Trial → (Stage → PassResult → Type 0) → Stage → PassResult → Type 0
Proceeds x rest s result =
    MatchBool s.state.removal (Last (Finishes x (pos 0)) end.Removed s result) (rest s result)

abbrev pub Onward : Trial → (Stage → PassResult → Type 0) → Option PassEnd → Stage → PassResult → Type 0
Onward x rest None s result = Proceeds x rest s result
Onward x rest (Some e) s result = result ≡ ends_here e s

-- the pass over the quotes that are left; where all were taken the expert is told the reason 1
abbrev pub Rest : Trial → List Quote → Stage → PassResult → Type 0
Rest x [] s result = Last (Finishes x (pos 1)) end.Completed s result
Rest x (quote ∷ more) s result =
    (halt : Option PassEnd) × (t : Stage) × Works x quote s halt t × Onward x (Rest x more) halt t result

-- what OnInit answers, as `int` holds it
abbrev pub answer_of : Value → ℤ
answer_of (Num k number) = wrapped Int number
answer_of _ = pos 0

-- behind OnInit: another answer than 0 is a failure, of which the expert is told the reason 8
abbrev pub Answered : Trial → List Quote → ℤ → Stage → PassResult → Type 0
Answered x quotes answer s result =
    MatchBool (is_zero answer) (Proceeds x (Rest x quotes) s result)
    (Last (Quits x (pos 8)) (end.InitFailed answer) s result)

abbrev pub AfterInit : Trial → List Quote → End → Stage → PassResult → Type 0
AfterInit x quotes (call.Returned v) s result = Answered x quotes (answer_of v) s result
AfterInit x quotes (call.Failed e) s result = result ≡ ends_here (end.Error e) s
AfterInit x quotes call.Exhausted s result = result ≡ ends_here end.Exhausted s
AfterInit x quotes call.Stopped s result = result ≡ ends_here end.Stopped s
AfterInit x quotes call.Stuck s result = result ≡ ends_here end.Stuck s

abbrev pub Inits : Trial → List Quote → Stage → PassResult → Type 0
Inits x quotes s result =
    (e : End) × (t : Stage) × Happens x entry.Init (pos 0) s e t × AfterInit x quotes e t result

-- behind Start, which makes globals and inputs
abbrev pub AfterStart : Trial → List Quote → Option PassEnd → Stage → PassResult → Type 0
AfterStart x quotes None s result = Inits x quotes s result
AfterStart x quotes (Some e) s result = result ≡ ends_here e s

-- before Start: a store whose inputs were set to these values, 50,000,000 steps for all calls, nothing done
abbrev pub first_stage : List SetInput → Stage
first_stage set =
    record { store = opening set; steps = 50000000; state = opening_state; quotes = 0; loud = 0 }

-- what a pass over quotes, with inputs that were set to these values, comes to
abbrev pub Passes : Trial → List SetInput → List Quote → PassResult → Type 0
Passes x set quotes result =
    (halt : Option PassEnd) × (t : Stage) × Does x entry.Start (pos 0) (first_stage set) halt t
    × AfterStart x quotes halt t result
