-- The answer of a run: what a command does, as readings in turn and then an end. Own.
use Rattle.std.specs.Prelude.{◌≡◌, ◌⊎◌, ℕ, nat_lt, List, [], length, Option, Some, None}
use Rattle.std.specs.Bool.{MatchBool}
use Rattle.tester_io.specs.Outside.{Contents, holding, CutShort}
use Rattle.tester_answer.specs.declared.status.Status.{Status}
use Rattle.tester_answer.specs.declared.status.Status.TheVariants.{Absent, TooLarge}

-- how a run may end that finds these contents: its status, what the sink gains, and the contents after it
abbrev pub Ending : Type 1
Ending = Contents → Status → List ℕ → Contents → Type 0

-- a refusal: this status, nothing written, no file changed
abbrev pub refusal : Status → Ending
refusal status held s text after = (s ≡ status) × (text ≡ []) × (after ≡ held)

-- what a command does: it asks for a file by its name, with the most bytes that it takes, and goes on with
-- what the file holds; or it goes on with that of which a definition is true; or it makes a file hold these
-- bytes; or it ends
pub data Plan : Type 1 where
  Reads : (name : List ℕ) (limit : ℕ) (next : List ℕ → Plan) → Plan
  Finds : (A : Type 0) (is : A → Type 0) (next : A → Plan) → Plan
  Writes : (name bytes : List ℕ) (next : Plan) → Plan
  Ends : (ending : Contents → Status → List ℕ → Contents → Type 0) → Plan

-- the end that refuses
abbrev pub refuses : Status → Plan
refuses status = Ends (refusal status)

-- what is never reached
abbrev pub never : Plan
never = Ends (λ held s text after. ⊥)

-- what follows a reading: a name that is not held and a file over the limit are refused
abbrev pub AfterReading : List ℕ → ℕ → (List ℕ → Ending) → Option (List ℕ) → Ending
AfterReading name limit next None held s text after = refusal (Absent name) held s text after
AfterReading name limit next (Some bytes) held s text after =
    MatchBool (nat_lt limit (length bytes)) (refusal (TooLarge name) held s text after)
    (next bytes held s text after)

-- the ends that a plan has over these contents
abbrev pub Gives : Plan → Ending
Gives (Reads name limit next) held s text after =
    AfterReading name limit (λ bytes. Gives (next bytes)) (held name) held s text after
Gives (Finds A is next) held s text after = (a : A) × is a × Gives (next a) held s text after
Gives (Writes name bytes next) held s text after = Gives next (holding held name bytes) s text after
Gives (Ends ending) held s text after = ending held s text after

-- over any contents the plan has one end: one status, one text, and one contents after it
abbrev pub OneEnd : Plan → Type 0
OneEnd plan = (held : Contents) (s s' : Status) (text text' : List ℕ) (after after' : Contents)
    → Gives plan held s text after → Gives plan held s' text' after'
    → (s ≡ s') × (text ≡ text') × (after ≡ after')

-- behind a reading: nothing is reached where the name is not held or holds more than the limit
abbrev pub ReachesAfter : ℕ → (List ℕ → Type 0) → Option (List ℕ) → Type 0
ReachesAfter limit next None = ⊥
ReachesAfter limit next (Some bytes) = MatchBool (nat_lt limit (length bytes)) ⊥ (next bytes)

-- the plan comes to the reading of that name, with no refusal before it
abbrev pub Reaches : Plan → List ℕ → Contents → Type 0
Reaches (Reads name limit next) wanted held =
    (name ≡ wanted) ⊎ ReachesAfter limit (λ bytes. Reaches (next bytes) wanted held) (held name)
Reaches (Finds A is next) wanted held = (a : A) × is a × Reaches (next a) wanted held
Reaches (Writes name bytes next) wanted held = Reaches next wanted (holding held name bytes)
Reaches (Ends ending) wanted held = ⊥

-- the plan comes to the writing of a file, and these are the contents where that was cut short
abbrev pub CutAt : Plan → Contents → Option Contents → Type 0
CutAt (Reads name limit next) held now = ReachesAfter limit (λ bytes. CutAt (next bytes) held now) (held name)
CutAt (Finds A is next) held now = (a : A) × is a × CutAt (next a) held now
CutAt (Writes name bytes next) held now =
    CutShort held name bytes now ⊎ CutAt next (holding held name bytes) now
CutAt (Ends ending) held now = ⊥

-- the plan comes to the writing of a file
abbrev pub WritesFile : Plan → Contents → Type 0
WritesFile plan held = CutAt plan held (Some held)
