-- The law of valid code: it is never stuck (own).
use Rattle.std.specs.Prelude.{◌≡◌, ℕ, ℤ, zero, suc, List, Some}
use Rattle.mql_mean.specs.declared.value.Value.{Value}
use Rattle.mql_meaning.specs.declared.store.SetInput.{SetInput}
use Rattle.mql_meaning.specs.declared.store.Store.{Store}
use Rattle.mql_meaning.specs.declared.tree.Entry.{Entry}
use Rattle.mql_meaning.specs.declared.tree.Entry.TheVariants as entry
use Rattle.mql_meaning.specs.Changes.{Returned}
use Rattle.mql_meaning.specs.Frames.{opening}
use Rattle.mql_meaning.specs.Means.{Outcome, event}
use Rattle.mql_meaning.specs.Runs.{World}
use Rattle.stack_code.specs.declared.code.Code.{Code}
use Rattle.stack_code.specs.Machine.{Gives, program_of}
use Rattle.stack_validity.specs.Fits.{Sound, InputsFit}

-- an event that the code has
abbrev pub Has : Code → Entry → Type 0
Has code e = (k : ℕ) × (event (program_of code) e ≡ Some k)

-- the store of a program that began: Start ran from the opening store of inputs that fit, and returned
pub record Began (code : Code) (store : Store) : Type 0 where
  pub set : List SetInput
  pub fit : InputsFit code set
  pub has : Has code entry.Start
  pub argument : ℤ
  pub steps : ℕ
  pub world : World
  pub opens : world.store ≡ opening set
  pub outcome : Outcome
  pub gives : Gives code entry.Start argument steps world outcome
  pub value : Value
  pub returned : outcome.ended ≡ Returned value
  pub leaves : outcome.world.store ≡ store

-- an event left a store behind, and began with one of those before
pub record Left (code : Code) (Before : Store → Type 0) (store : Store) : Type 0 where
  pub entry : Entry
  pub has : Has code entry
  pub argument : ℤ
  pub steps : ℕ
  pub world : World
  pub before : Before world.store
  pub outcome : Outcome
  pub gives : Gives code entry argument steps world outcome
  pub leaves : outcome.world.store ≡ store

-- a store that so many events left behind after the program began, however they ended
abbrev pub Reached : Code → ℕ → Store → Type 0
Reached code zero store = Began code store
Reached code (suc n) store = Left code (Reached code n) store

-- Start from an opening store, and every event from each store that events left behind, end and are not stuck
pub record NeverStuck (code : Code) : Type 0 where
  pub start : Has code entry.Start → (set : List SetInput) → InputsFit code set
      → (arg : ℤ) (n : ℕ) (w : World) → w.store ≡ opening set
      → (o : Outcome) → Gives code entry.Start arg n w o → Sound o.ended
  pub later : (e : Entry) → Has code e → (events : ℕ)
      → (arg : ℤ) (n : ℕ) (w : World) → Reached code events w.store
      → (o : Outcome) → Gives code e arg n w o → Sound o.ended
