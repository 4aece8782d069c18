-- A rule of the settings that is broken. Own.
use Rattle.std.specs.Prelude.{◌≡◌, ℕ, List, Result, Ok, Err, ⊤}
use Rattle.settings_file.specs.Keys.{rule_of}
use Rattle.settings_file.specs.declared.keys.KeyFault.{KeyFault}
use Rattle.settings_file.specs.declared.fault.SettingsFault.{SettingsFault}
use Rattle.settings_file.specs.declared.fault.SettingsFault.TheVariants as fault

-- the number of the rule, and the key that is told
abbrev pub Broken : Type 0
Broken = ℕ × List ℕ

-- what follows from the value of a key, or the rule that the key breaks
abbrev pub at_key : {A B : Type 0} → List ℕ → Result A KeyFault → (A → Result B Broken) → Result B Broken
at_key key (Err broken) f = Err (rule_of broken, key)
at_key key (Ok x) f = f x

-- what follows from values that were judged
abbrev pub then_with : {A B : Type 0} → Result A Broken → (A → Result B Broken) → Result B Broken
then_with (Err broken) f = Err broken
then_with (Ok x) f = f x

-- an answer tells this rule and key; want of memory alone is free
abbrev pub Tells : ℕ → List ℕ → SettingsFault → Type 0
Tells rule key (fault.Rule r k) = (r ≡ rule) × (k ≡ key)
Tells rule key fault.OutOfMemory = ⊤

-- an answer is that of the definition; want of memory alone is free
abbrev pub IsAnswer : {A : Type 0} → Result A Broken → Result A SettingsFault → Type 0
IsAnswer answer (Ok x) = answer ≡ Ok x
IsAnswer answer (Err (fault.Rule rule key)) = answer ≡ Err (rule, key)
IsAnswer answer (Err fault.OutOfMemory) = ⊤
