-- What a call does, against the act of a program that it stands for.
use Rattle.std.specs.Prelude.{◌≡◌, ℕ, List, ◌++◌, Result, Ok, Err}
use Rattle.mql_mean.specs.declared.host.HostCall.{HostCall}
use Rattle.mql_mean.specs.Answer.{Answer}
use Rattle.mql_meaning.specs.declared.store.Store.{Store}
use Rattle.mql_meaning.specs.Changes.{Stopped}
use Rattle.mql_meaning.specs.Runs.{world, Res, Go, End, Act}
use Rattle.store_cells.specs.declared.fault.Fault.{Fault}
use Rattle.store_cells.specs.declared.fault.Fault.TheVariants as fault
use Rattle.store_cells.specs.Changes.{ended}
use Rattle.stack_world.specs.declared.halt.Halt.{Halt}
use Rattle.stack_world.specs.declared.halt.Halt.TheVariants as halt
use Rattle.stack_world.specs.Turns.{Over}

-- a change that does not come to its end halts an act
abbrev pub halted : Fault → Halt
halted (fault.End e) = halt.End e
halted fault.OutOfMemory = halt.OutOfMemory

-- what an act comes to is what a call answers, with the steps, the store, the calls made so far and the answers
-- left
abbrev pub Came : {A : Type 0} → Res A → Result A Halt → ℕ → Store → List HostCall → List Answer → Type 0
Came res (Ok a) n store calls answers = res ≡ Go a n (world store calls answers)
Came res (Err (halt.End e)) n store calls answers = res ≡ End (ended e) n (world store calls answers)
Came res (Err halt.Stopped) n store calls answers = res ≡ End Stopped n (world store calls answers)
Came res (Err halt.OutOfMemory) n store calls answers = Unit {0}

-- an act that spends no step comes to what a call answers, over the world's answers, whatever answers are left
-- beside those that it got
abbrev pub ActsOver : {A W : Type 0} → (W → HostCall → Answer → W → Type 0) → Act A → Result A Halt → ℕ
    → Store → Store → W → W → Type 0
ActsOver may act result n old new w w' = Over may w w' (λ made got. (calls : List HostCall) (rest : List Answer)
    → Came (act n (world old calls (got ++ rest))) result n new (calls ++ made) rest)

-- a call does an act that spends no step; want of memory says nothing
abbrev pub Acts : {A W : Type 0} → (W → HostCall → Answer → W → Type 0) → Act A → Result A Halt → ℕ
    → Store → Store → W → W → Type 0
Acts may act (Ok a) n old new w w' = ActsOver may act (Ok a) n old new w w'
Acts may act (Err (halt.End e)) n old new w w' = ActsOver may act (Err (halt.End e)) n old new w w'
Acts may act (Err halt.Stopped) n old new w w' = ActsOver may act (Err halt.Stopped) n old new w w'
Acts may act (Err halt.OutOfMemory) n old new w w' = Unit {0}
