use Rattle.std.proofs.Common.{◌≡◌, length}
use Rattle.fx8.specs.Decimals.{number, number_after}
use Rattle.mql_meaning.specs.Texts.{digits_first}
use Rattle.native_conversions.specs.LowBits.{low_bits}
use Rattle.native_conversions.proofs.digits.digits_number.Given as goal

abbrev pub invariant-loop-rest : goal.invariant-loop-rest
invariant-loop-rest l = record {
  small : low_bits l.number ≡ l.number;
  same : low_bits (number_after l.number (digits_first l.rest)) ≡ low_bits (number (digits_first l.fn.text));
}

abbrev pub decreases-loop-rest : goal.decreases-loop-rest
decreases-loop-rest l = length l.rest
