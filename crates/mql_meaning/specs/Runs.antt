-- A run: the store, the world that is asked, and the steps that are left.
use Rattle.std.specs.Prelude.{ℕ, zero, suc, Bool, true, false, List}
use Rattle.mql_mean.specs.Answer.{Answer}
use Rattle.mql_mean.specs.declared.host.HostCall.{HostCall}
use Rattle.mql_meaning.specs.declared.store.Store.{Store}
use Rattle.mql_meaning.specs.Changes.{Ended, Exhausted, Out, Done, Over, Change}

-- the store, the calls to the world so far, and the answers that are left
pub record World : Type 0 where
  pub store : Store
  pub calls : List HostCall
  pub answers : List Answer

-- a world of these
abbrev pub world : Store → List HostCall → List Answer → World
world store calls answers = record { store = store; calls = calls; answers = answers }

-- what a part of a program comes to: something, or an end, with the steps that are left and the world
pub data Res (A : Type 0) : Type 0 where
  Go : (a : A) (n : ℕ) (w : World) → Res A
  End : (e : Ended) (n : ℕ) (w : World) → Res A

-- a part of a program, from the steps that are left and a world
abbrev pub Act : Type 0 → Type 0
Act A = ℕ → World → Res A

-- one part and then another; an end leaves the other out
abbrev pub bind : {A B : Type 0} → Res A → (A → Act B) → Res B
bind (Go a n w) f = f a n w
bind (End e n w) f = End e n w

infixl 10 ◌>>=◌
unfoldable pub ◌>>=◌ : {A B : Type 0} → Act A → (A → Act B) → Act B
(part >>= f) n w = bind (part n w) f

infixl 10 ◌>>◌
unfoldable pub ◌>>◌ : {A B : Type 0} → Act A → Act B → Act B
(part >> next) n w = bind (part n w) (λ _. next)

-- does nothing and gives something
unfoldable pub pure : {A : Type 0} → A → Act A
pure a n w = Go a n w

-- ends the run
unfoldable pub halt : {A : Type 0} → Ended → Act A
halt e n w = End e n w

-- what a change of the store comes to in a run: it spends no step and makes no call
abbrev pub in_run : {A : Type 0} → Out A → Act A
in_run (Done a store) n w = Go a n (world store w.calls w.answers)
in_run (Over e store) n w = End e n (world store w.calls w.answers)

-- a change of the store
unfoldable pub change : {A : Type 0} → Change A → Act A
change f n w = in_run (f w.store) n w

-- a part that spends a step first, where one is left
unfoldable pub spend : {A : Type 0} → Act A → Act A
spend part zero w = End Exhausted zero w
spend part (suc n) w = part n w

-- one of two parts; the other is left out
unfoldable pub choose : {A : Type 0} → Bool → Act A → Act A → Act A
choose true a b n w = a n w
choose false a b n w = b n w
