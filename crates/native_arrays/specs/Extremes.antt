-- What is looked for among numbers.
use Rattle.std.specs.Prelude.{ℤ, Bool, int_lt}
use Rattle.native_arrays.specs.declared.extremes.Extreme.{Extreme}
use Rattle.native_arrays.specs.declared.extremes.Extreme.TheVariants as extreme

-- a number betters another one
abbrev pub better : Extreme → ℤ → ℤ → Bool
better extreme.Greatest x y = int_lt y x
better extreme.Least x y = int_lt x y
