-- Keys of the settings that hold amounts of money and volumes. Own.
use Rattle.std.specs.Prelude.{ℕ, ◌*◌, ◌&&◌, if◌then◌else◌, Option, Some, None, ℤ, pos, ◌*ℤ◌, int_le, Result, Ok, Err}
use Rattle.toml.specs.Data.{Data, string, integer}
use Rattle.decimals.specs.Texts.{signed}
use Rattle.settings_file.specs.declared.keys.KeyFault.{KeyFault}
use Rattle.settings_file.specs.declared.keys.KeyFault.TheVariants.{WrongKind, OutOfRange}
use Rattle.settings_file.specs.Keys.{and_then}

-- a decimal that was read, or one that has not the form
abbrev pub of_form : Option ℤ → Result ℤ KeyFault
of_form None = Err OutOfRange
of_form (Some n) = Ok n

abbrev pub amount_in : ℤ → ℤ → ℤ → Result ℤ KeyFault
amount_in lo hi n = if int_le lo n && int_le n hi then Ok n else Err OutOfRange

-- an amount of money in hundredths: a string with at most two decimals, or a whole number
abbrev pub money_data : ℕ → Data → Result ℤ KeyFault
money_data most (string text) = of_form (signed 2 most text)
money_data most (integer z) = Ok (z *ℤ pos 100)
money_data most other = Err WrongKind

-- a key that holds an amount from so many hundredths to so much money
abbrev pub money_key : ℤ → ℤ → ℕ → Option Data → Result ℤ KeyFault
money_key preset lo most None = Ok preset
money_key preset lo most (Some d) = and_then (money_data most d) (amount_in lo (pos (most * 100)))

-- a volume in units of 10^-8: a string with at most eight decimals, or a whole number
abbrev pub volume_data : Data → Result ℤ KeyFault
volume_data (string text) = of_form (signed 8 1000 text)
volume_data (integer z) = Ok (z *ℤ pos 100000000)
volume_data other = Err WrongKind

-- a key that holds a volume above 0, and at most 1000
abbrev pub volume_key : ℤ → Option Data → Result ℤ KeyFault
volume_key preset None = Ok preset
volume_key preset (Some d) = and_then (volume_data d) (amount_in (pos 1) (pos 100000000000))
