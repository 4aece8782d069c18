-- The world of a test without an account: what each call of it gets and changes (MQL5 Reference, Common
-- Functions; Checkup; Math Functions, MathRand, MathSrand; Date and Time).
use Rattle.std.specs.Prelude.{◌≡◌, ℕ, ℤ, pos, ◌+◌, ◌*◌, ◌/◌, ◌%◌, ◌^◌, ◌-ℤ◌, nat_le, unsigned_abs, codes, Bool, true, false, List, [], ◌∷◌, ◌++◌, Option, Some, None, Result, Ok, Err}
use Rattle.fx8.specs.declared.int_kind.IntKind.TheVariants.{Int, Uint, Ushort, Datetime}
use Rattle.fx8.specs.declared.fix_fault.FixFault.{FixFault}
use Rattle.fx8.specs.Integers.{wrapped, is_zero}
use Rattle.mql_mean.specs.declared.value.Value.{Value, Num, Str}
use Rattle.mql_mean.specs.declared.value.Value.TheVariants as value
use Rattle.mql_mean.specs.declared.host.HostCall.{HostCall}
use Rattle.mql_mean.specs.declared.host.HostEnd.{HostEnd}
use Rattle.mql_mean.specs.declared.host.HostEnd.TheVariants as ended
use Rattle.mql_mean.specs.declared.host.Reply.{Reply}
use Rattle.mql_mean.specs.declared.error.ErrorKind.{ErrorKind}
use Rattle.mql_mean.specs.declared.error.ErrorKind.TheVariants.{PrintsExhausted, FixedOverflow}
use Rattle.mql_mean.specs.Answer.{Answer, Replied, Refused}
use Rattle.natives.specs.Names.{native_at}
use Rattle.tester_world.specs.declared.asked.Asked.{Asked}
use Rattle.tester_world.specs.declared.asked.Asked.TheVariants as asks
use Rattle.tester_world.specs.Asked.{asked_by}
use Rattle.mql_meaning.specs.Changes.{either}
use Rattle.mql_meaning.specs.Texts.{printed}
use Rattle.mql_meaning.specs.Formats.{format}
use Rattle.tester_world.specs.declared.printed.Printed.{Printed}
use Rattle.tester_world.specs.Journal.{journal_bytes, line_bytes, most_bytes}

-- what an expert's calls read and change: its prints, the time of the last loud quote (0 before it) in
-- milliseconds, the state of MathRand's generator, the last error, what UninitializeReason tells, and whether
-- ExpertRemove was called
pub record TesterState : Type 0 where
  pub prints : List Printed
  pub time : ℤ
  pub generator : ℕ
  pub last_error : ℕ
  pub reason : ℤ
  pub removal : Bool

-- the state before the first quote
abbrev pub opening_state : TesterState
opening_state =
    record { prints = []; time = pos 0; generator = 1; last_error = 0; reason = pos 0; removal = false }

-- a loud quote of this time has come; the expert ends for this reason
abbrev pub at_time : TesterState → ℤ → TesterState
at_time s time = record s { time = time }

abbrev pub with_reason : TesterState → ℤ → TesterState
with_reason s reason = record s { reason = reason }

abbrev pub with_generator : TesterState → ℕ → TesterState
with_generator s generator = record s { generator = generator }

abbrev pub with_last_error : TesterState → ℕ → TesterState
with_last_error s number = record s { last_error = number }

abbrev pub with_removal : TesterState → TesterState
with_removal s = record s { removal = true }

-- one more line of the journal
abbrev pub with_line : TesterState → List ℕ → TesterState
with_line s text = record s { prints = s.prints ++ record { time_ms = s.time; text = text } ∷ [] }

-- what a call gets, and what the world is then
pub record Response : Type 0 where
  pub answer : Answer
  pub state : TesterState

abbrev pub reply : Value → Reply
reply v = record { value = v; outs = [] }

abbrev pub gives : Value → TesterState → Response
gives v s = record { answer = Replied (reply v); state = s }

abbrev pub refuses : ErrorKind → TesterState → Response
refuses kind s = record { answer = Refused kind; state = s }

-- numbers as values, and the value of a void function
abbrev pub int : ℤ → Value
int x = value.Num Int x

abbrev pub nothing : Value
nothing = int (pos 0)

-- a reply that no native function may give: it stops the run, where typing or what is built so far excludes
-- the call
abbrev pub no_reply : Reply
no_reply = reply (value.Ptr 0)

abbrev pub stops : TesterState → Response
stops s = gives (value.Ptr 0) s

-- Print adds a line; where the journal would pass 1,048,576 bytes it ends the run, and no line is added
abbrev pub prints : TesterState → List ℕ → Response
prints s text =
    either (nat_le (journal_bytes s.prints + line_bytes text) most_bytes) (gives nothing (with_line s text))
    (refuses PrintsExhausted s)

abbrev pub prints_text : TesterState → Option (List ℕ) → Response
prints_text s None = stops s
prints_text s (Some text) = prints s text

abbrev pub prints_values : TesterState → List Value → Response
prints_values s vs = prints_text s (printed vs)

-- PrintFormat
abbrev pub prints_result : TesterState → Result (List ℕ) FixFault → Response
prints_result s (Ok text) = prints s text
prints_result s (Err fault) = refuses FixedOverflow s

abbrev pub prints_format : TesterState → List ℕ → List Value → Response
prints_format s text vs = prints_result s (format text vs)

abbrev pub prints_formatted : TesterState → List Value → Response
prints_formatted s (Str text ∷ vs) = prints_format s text vs
prints_formatted s _ = stops s

-- MathRand: 1103515245 s + 12345 modulo 2^32 is the next state of its generator, and the number is that state
-- by 65536, modulo 32768 (own); MathSrand sets the state
abbrev pub drawn : ℕ → ℕ
drawn g = (1103515245 * g + 12345) % 4294967296

abbrev pub drawn_number : TesterState → Value
drawn_number s = int (pos (drawn s.generator / 65536 % 32768))

abbrev pub seeded : ℤ → ℕ
seeded x = unsigned_abs (wrapped Uint x)

-- TimeCurrent, TimeLocal and TimeGMT: the time of the last loud quote in whole seconds
abbrev pub time_value : TesterState → Value
time_value s = value.Num Datetime (pos (unsigned_abs s.time / 1000))

-- Symbol; Period is M1
abbrev pub symbol_value : Value
symbol_value = value.Str (codes "SYMBOL")

-- MQLInfoInteger: MQL_TESTER, which is 0, is 1; MQL_OPTIMIZATION, which is 1, is 0; any other is out of range
abbrev pub out_of_range : ℕ
out_of_range = 4003

abbrev pub information : ℤ → Value
information x = int (either (is_zero x) (pos 1) (pos 0))

abbrev pub after_information : TesterState → ℤ → TesterState
after_information s x =
    either (is_zero x) s (either (is_zero (x -ℤ pos 1)) s (with_last_error s out_of_range))

-- the number that the first argument is
abbrev pub first_number : List Value → ℤ
first_number (Num k x ∷ vs) = x
first_number _ = pos 0

-- a last error as 16 bits hold it
abbrev pub error_number : ℤ → ℕ
error_number x = unsigned_abs (wrapped Ushort x)

-- what the world answers
abbrev pub responds : TesterState → Asked → List Value → Response
responds s asks.Print vs = prints_values s vs
responds s asks.PrintFormat vs = prints_formatted s vs
responds s asks.MathRand vs = gives (drawn_number s) (with_generator s (drawn s.generator))
responds s asks.MathSrand vs = gives nothing (with_generator s (seeded (first_number vs)))
responds s asks.Time vs = gives (time_value s) s
responds s asks.ExpertRemove vs = gives nothing (with_removal s)
responds s asks.GetLastError vs = gives (int (pos s.last_error)) s
responds s asks.ResetLastError vs = gives nothing (with_last_error s 0)
responds s asks.SetLastError vs = gives nothing (with_last_error s (error_number (first_number vs)))
responds s asks.Symbol vs = gives symbol_value s
responds s asks.Period vs = gives (int (pos 1)) s
responds s asks.UninitializeReason vs = gives (int s.reason) s
responds s asks.MqlInfoInteger vs =
    gives (information (first_number vs)) (after_information s (first_number vs))
responds s asks.Missing vs = stops s

unfoldable pub response : TesterState → HostCall → Response
response s c = responds s (asked_by (native_at c.id)) c.args

-- what a call gets and leaves
pub record TesterStep (s : TesterState) (call : HostCall) (answer : Answer) (after : TesterState) : Type 0 where
  pub answered : answer ≡ (response s call).answer
  pub left : after ≡ (response s call).state

-- what a call of the world's code gives, against a response; want of memory says nothing
abbrev pub Gives : Response → Result Reply HostEnd → TesterState → Type 0
Gives r (Ok given) after = (r.answer ≡ Replied given) × (after ≡ r.state)
Gives r (Err (ended.Error kind)) after = (r.answer ≡ Refused kind) × (after ≡ r.state)
Gives r (Err ended.OutOfMemory) after = Unit {0}
