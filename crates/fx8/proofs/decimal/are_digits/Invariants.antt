use Rattle.std.proofs.Common.{◌≡◌, length}
use Rattle.fx8.specs.Decimals.{all_digits, are_digits}
use Rattle.fx8.proofs.decimal.are_digits.Given as goal

abbrev pub invariant-loop-rest : goal.invariant-loop-rest
invariant-loop-rest l = are_digits l.fn.text ≡ all_digits l.rest

abbrev pub decreases-loop-rest : goal.decreases-loop-rest
decreases-loop-rest l = length l.rest
