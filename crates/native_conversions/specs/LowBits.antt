-- As much of a number as 64 bits hold. (No definition for readers.)
use Rattle.std.specs.Prelude.{ℕ, ◌%◌, ◌^◌}

unfoldable pub low_bits : ℕ → ℕ
low_bits n = n % 2 ^ 64
