-- What the files and the sink outside the program tell, and how their counts of faults go.
use Rattle.std.specs.Prelude.{◌≡◌, ℕ, ◌+◌, ◌-◌, ◌^◌, ◌≤◌, ◌⊎◌, min, List, take, Option, Some, None, bytes_eq, if◌then◌else◌}

-- what each name holds; a name that is not held has None (own)
abbrev pub Contents : Type 0
Contents = List ℕ → Option (List ℕ)

-- What is seen of files: what each name holds, where it is told; how many readings asked for a name that is
-- not held, failed, or found more bytes than they take; how many writings failed (own)
pub record FilesSeen : Type 0 where
  pub told : Option Contents
  pub absents : ℕ
  pub read_faults : ℕ
  pub oversizes : ℕ
  pub write_faults : ℕ

-- What is seen of a sink: what was written, where it is told, and how many writings failed (own)
pub record SinkSeen : Type 0 where
  pub told : Option (List ℕ)
  pub write_faults : ℕ

-- no name holds anything (own)
abbrev pub empty : Contents
empty = λ _. None

-- the same contents, with that name holding these bytes (own)
abbrev pub holding : Contents → List ℕ → List ℕ → Contents
holding held name bytes = λ asked. if bytes_eq name asked then Some bytes else held asked

-- what a write that was cut short may leave: the contents as they were, or the name holding a prefix of the
-- bytes (own)
abbrev pub CutShort : Contents → List ℕ → List ℕ → Option Contents → Type 0
CutShort held name bytes after =
    (after ≡ Some held) ⊎ ((n : ℕ) × (after ≡ Some (holding held name (take n bytes))))

-- P of what is told; nothing where it is not told (own)
abbrev pub WhereTold : {A : Type 0} → Option A → (A → Type 0) → Type 0
WhereTold {A} told P = (value : A) → told ≡ Some value → P value

-- the count rose, or stands at the end of 64 bits (own)
abbrev pub Rose : ℕ → ℕ → Type 0
Rose before now = min (before + 1) (2 ^ 64 - 1) ≤ now

-- a count of one fault over one call: it never falls, it rose where the call answers the fault, and it stays
-- otherwise (own)
pub record Counts (Fault : Type 0) (before now : ℕ) : Type 0 where
  pub never_falls : before ≤ now
  pub rose : Fault → Rose before now
  pub stays : (Fault → ⊥) → now ≡ before

-- the count rose by one at most (own)
abbrev pub AtMostOnce : ℕ → ℕ → Type 0
AtMostOnce before now = now ≤ before + 1
