-- Files and a sink that are kept in memory, and which calls of theirs are to fail.
use Rattle.std.specs.Prelude.{◌≡◌, ℕ, Bool, ◌==◌, nat_lt, List, length, Option, Some, None, Result, Ok, Err, find, option_map, bytes_eq, if◌then◌else◌, IsOk}
use Rattle.std.specs.List.{list_any}
use Rattle.tester_io.specs.declared.fault.FileFault.{FileFault}
use Rattle.tester_io.specs.declared.fault.FileFault.TheVariants.{Absent, Failed, TooLarge, OutOfMemory}
use Rattle.tester_io.specs.declared.shelf.Held.{Held}
use Rattle.tester_io.specs.Outside.{Contents}

-- the test by which a name's place is found (own)
abbrev pub named : List ℕ → Held → Bool
named name file = bytes_eq file.name name

-- what the files of a list hold: the bytes of the first of that name (own)
abbrev pub held_in : List Held → Contents
held_in files name = option_map (λ (file : Held). file.bytes) (find (named name) files)

-- the call of this number is to fail: the list has the number (own)
abbrev pub is_to_fail : List ℕ → ℕ → Bool
is_to_fail fails call = list_any (λ number. number == call) fails

-- what a reading of a name that holds this gives, memory found (own)
abbrev pub reading : Option (List ℕ) → ℕ → Result (List ℕ) FileFault
reading None limit = Err Absent
reading (Some bytes) limit = if nat_lt limit (length bytes) then Err TooLarge else Ok bytes

-- the answer is the wanted one, or, in place of bytes, that there was no memory for them (own)
abbrev pub Gives : Result (List ℕ) FileFault → Result (List ℕ) FileFault → Type 0
Gives (Ok bytes) wanted = wanted ≡ Ok bytes
Gives (Err Absent) wanted = wanted ≡ Err Absent
Gives (Err Failed) wanted = wanted ≡ Err Failed
Gives (Err TooLarge) wanted = wanted ≡ Err TooLarge
Gives (Err OutOfMemory) wanted = IsOk wanted
