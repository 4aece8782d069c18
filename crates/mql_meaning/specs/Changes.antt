-- Changes of the store: what a part of a program does that asks no world and spends no step.
use Rattle.std.specs.Prelude.{ℕ, Bool, true, false, List, [], ◌∷◌, Option, Some, None, length, ◌-◌, slice_get}
use Rattle.mql_mean.specs.declared.value.Value.{Value}
use Rattle.mql_mean.specs.declared.error.ErrorKind.{ErrorKind}
use Rattle.mql_meaning.specs.declared.store.Store.{Store}
use Rattle.mql_meaning.specs.declared.store.Frame.{Frame}

-- how a run ends: with a value; with an error at a line; where no step is left; where the world had no
-- fitting answer; or where the program is none that typing admits (own)
pub data Ended : Type 0 where
  Returned : (value : Value) → Ended
  Failed : (kind : ErrorKind) (line : ℕ) → Ended
  Exhausted : Ended
  Stopped : Ended
  Stuck : Ended

-- what a change comes to: something and the store after it, or an end, which leaves the store as it then
-- stands
pub data Out (A : Type 0) : Type 0 where
  Done : (a : A) (store : Store) → Out A
  Over : (e : Ended) (store : Store) → Out A

-- a change of the store
abbrev pub Change : Type 0 → Type 0
Change A = Store → Out A

-- one change and then another; an end leaves the other out
abbrev pub after : {A B : Type 0} → Out A → (A → Change B) → Out B
after (Done a store) f = f a store
after (Over e store) f = Over e store

infixl 10 ◌>>=◌
abbrev pub ◌>>=◌ : {A B : Type 0} → Change A → (A → Change B) → Change B
(change >>= f) store = after (change store) f

infixl 10 ◌>>◌
abbrev pub ◌>>◌ : {A B : Type 0} → Change A → Change B → Change B
(change >> next) store = after (change store) (λ _. next)

-- gives something and changes nothing
abbrev pub give : {A : Type 0} → A → Change A
give a store = Done a store

-- ends the run
abbrev pub ends : {A : Type 0} → Ended → Change A
ends e store = Over e store

-- what typing excludes
abbrev pub stuck : {A : Type 0} → Change A
stuck store = Over Stuck store

-- the store as it stands, and another store in its place
abbrev pub the_store : Change Store
the_store store = Done store store

abbrev pub becomes : Store → Change (Unit {0})
becomes new store = Done tt new

-- what is there; nothing there is what typing excludes
abbrev pub the : {A : Type 0} → Option A → Change A
the None store = Over Stuck store
the (Some a) store = Done a store

-- the frame in force
abbrev pub top : Store → Option Frame
top store = slice_get store.frames (length store.frames - 1)

-- the line in force, and 0 where no function runs
abbrev pub line_of : Option Frame → ℕ
line_of None = 0
line_of (Some f) = f.line

-- an error at the line in force
abbrev pub fail : {A : Type 0} → ErrorKind → Change A
fail kind store = Over (Failed kind (line_of (top store))) store

-- one of two: as it is tested, the other is left out
abbrev pub either : {A : Type 0} → Bool → A → A → A
either true a b = a
either false a b = b

-- an error where a test does not hold
abbrev pub must : Bool → ErrorKind → Change (Unit {0})
must true kind store = Done tt store
must false kind store = fail kind store

-- each of a list in turn
abbrev pub for_each : {A B : Type 0} → (A → Change B) → List A → Change (List B)
for_each f [] = give []
for_each f (a ∷ rest) = f a >>= λ b. for_each f rest >>= λ bs. give (b ∷ bs)

-- a look-up after another
abbrev pub then_some : {A B : Type 0} → Option A → (A → Option B) → Option B
then_some None f = None
then_some (Some a) f = f a
