use Rattle.std.proofs.Common.{◌≡◌, true, length}
use Rattle.fx8.specs.Decimals.{all_digits, number_after}
use Rattle.fx8.proofs.decimal.number_after.Given as goal

abbrev pub invariant-loop-rest : goal.invariant-loop-rest
invariant-loop-rest l = record { digits : all_digits l.rest ≡ true; left : number_after l.value l.rest ≡ number_after l.fn.number l.fn.digits }

abbrev pub decreases-loop-rest : goal.decreases-loop-rest
decreases-loop-rest l = length l.rest
