-- A run as a talk with the world: what it asks depends on the answers that it got so far alone (own).
use Rattle.std.specs.Prelude.{◌≡◌, ℕ, ℤ, List, [], ◌∷◌, ◌++◌}
use Rattle.mql_mean.specs.declared.value.Value.{Value}
use Rattle.mql_mean.specs.declared.host.HostCall.{HostCall}
use Rattle.mql_mean.specs.Answer.{Answer}
use Rattle.mql_meaning.specs.declared.store.Store.{Store}
use Rattle.mql_meaning.specs.declared.tree.Checked.{Checked}
use Rattle.mql_meaning.specs.declared.tree.Entry.{Entry}
use Rattle.mql_meaning.specs.Changes.{Ended, Stopped}
use Rattle.mql_meaning.specs.Runs.{Res, Go, End, world}
use Rattle.mql_meaning.specs.Means.{means, outcome}

-- it gives something, or is over; or it makes a call and goes on by the answer
pub data Talk (A : Type 0) : Type 0 where
  Gives : (a : A) (n : ℕ) (store : Store) → Talk A
  Over : (e : Ended) (n : ℕ) (store : Store) → Talk A
  Asks : (call : HostCall) (n : ℕ) (store : Store) (onward : Answer → Talk A) → Talk A

-- a talk over a list of answers, after these calls; where no answer is left it stops at its call
abbrev pub hear : {A : Type 0} → Talk A → List HostCall → List Answer → Res A
hear (Gives a n store) calls answers = Go a n (world store calls answers)
hear (Over e n store) calls answers = End e n (world store calls answers)
hear (Asks call n store onward) calls [] = End Stopped n (world store (calls ++ call ∷ []) [])
hear (Asks call n store onward) calls (answer ∷ answers) = hear (onward answer) (calls ++ call ∷ []) answers

-- what a program means over every list of answers is one talk
abbrev pub MeansTalks : Type 0
MeansTalks =
    (p : Checked) (e : Entry) (arg : ℤ) (n : ℕ) (store : Store)
    → (talk : Talk Value) × ((calls : List HostCall) (answers : List Answer)
    → means p e arg n (world store calls answers) ≡ outcome (hear talk calls answers))
