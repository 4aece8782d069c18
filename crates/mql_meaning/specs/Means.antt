-- What a program means by an event (MQL5 Reference, Language Basics, Functions; Event Handling). The only
-- definition that the compiler, the tester and the headline speak by.
use Rattle.std.specs.Prelude.{is_some, ℕ, ℤ, zero, suc, Bool, true, false, List, [], ◌∷◌, Option, Some, None, slice_get}
use Rattle.fx8.specs.declared.int_kind.IntKind.TheVariants as kind
use Rattle.mql_mean.specs.declared.value.Value.{Value}
use Rattle.mql_mean.specs.declared.value.Value.TheVariants as value
use Rattle.mql_meaning.specs.declared.tree.Checked.{Checked}
use Rattle.mql_meaning.specs.declared.tree.Class.{Class}
use Rattle.mql_meaning.specs.declared.tree.Entry.{Entry}
use Rattle.mql_meaning.specs.declared.tree.Entry.TheVariants as entry
use Rattle.mql_meaning.specs.declared.tree.Function.{Function}
use Rattle.mql_meaning.specs.Changes.{Ended, Returned, Exhausted, Stuck, Change, give}
use Rattle.mql_meaning.specs.Runs.{World, Res, Go, End, Act, ◌>>=◌, ◌>>◌, pure, halt, change, spend}
use Rattle.mql_meaning.specs.Operands.{Operand, Val}
use Rattle.mql_meaning.specs.Frames.{enter, leave, begin}
use Rattle.mql_meaning.specs.Natives.{void_value}
use Rattle.mql_meaning.specs.Expressions.{Call}
use Rattle.mql_meaning.specs.Statements.{Flow, Next, Gave, does_all}

-- what a function gives: the value of its `return`, or none where its end was reached
abbrev pub given : Bool → Flow → Act Value
given true (Gave (Val v)) = pure v
given false (Gave x) = pure void_value
given false Next = pure void_value
given _ _ = halt Stuck

-- a call of a function: its frame and its cells, its step, and then its body
abbrev pub runs_body : List Class → Option Function → (Function → Act Value) → List Operand → Act Value
runs_body classes None body xs = halt Stuck
runs_body classes (Some f) body xs = change (enter classes f xs) >>= λ _. spend (body f)

-- calls of at most so much depth, with at most so many turns of each loop
abbrev pub call_of : List Class → List Function → ℕ → Call
call_of classes functions zero k xs = runs_body classes (slice_get functions k) (λ f. halt Exhausted) xs
call_of classes functions (suc d) k xs = runs_body classes (slice_get functions k) (λ (f : Function). do
  flow ← does_all classes (call_of classes functions d) d f.locals (is_some f.result) f.body
  v ← given (is_some f.result) flow
  change leave
  pure v) xs

-- the function of an event
abbrev pub event : Checked → Entry → Option ℕ
event p entry.Start = p.entries.start
event p entry.Init = p.entries.init
event p entry.Tick = p.entries.tick
event p entry.Trade = p.entries.trade
event p entry.Tester = p.entries.tester
event p entry.Deinit = p.entries.deinit
event p entry.Stop = p.entries.stop

-- OnDeinit takes the reason
abbrev pub event_arguments : Entry → ℤ → List Operand
event_arguments entry.Deinit arg = Val (value.Num kind.Int arg) ∷ []
event_arguments _ arg = []

-- Start makes globals and inputs first
abbrev pub first : Checked → Entry → Change (Unit {0})
first p entry.Start = begin p
first p _ = give tt

-- a function that is there is called. Calls are at most n deep and a loop has at most n turns, since each
-- spends a step
abbrev pub runs : Checked → Option ℕ → List Operand → Act Value
runs p None xs n w = End Stuck n w
runs p (Some k) xs n w = call_of p.classes p.functions n k xs n w

-- how a run ends, with the steps that are left and what it leaves behind
pub record Outcome : Type 0 where
  pub ended : Ended
  pub left : ℕ
  pub world : World

abbrev pub outcome : Res Value → Outcome
outcome (Go v n w) = record { ended = Returned v; left = n; world = w }
outcome (End e n w) = record { ended = e; left = n; world = w }

-- an event with an argument
abbrev pub meaning : Checked → Entry → ℤ → Act Value
meaning p e arg = change (first p e) >>= λ _. runs p (event p e) (event_arguments e arg)

-- what the source means by an event with an argument, within n steps, from a world
abbrev pub means : Checked → Entry → ℤ → ℕ → World → Outcome
means p e arg n w = outcome (meaning p e arg n w)
