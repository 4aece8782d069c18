-- Prices are doubles of 64 bits (own).
use Rattle.std.specs.Prelude.{FitsSigned, Option, IfSome, ℤ}
use Rattle.std.specs.Int.{w64}

-- Bid and Ask fit 64 bits
abbrev pub AreDoubles : ℤ × ℤ → Type 0
AreDoubles pair = FitsSigned w64 pair.0 × FitsSigned w64 pair.1

abbrev pub IsPair : Option (ℤ × ℤ) → Type 0
IsPair o = IfSome o AreDoubles
