use Rattle.std.proofs.Common.{length}
use Rattle.std.specs.List.{All}
use Rattle.account.specs.Doubles.{IsPair}
use Rattle.account.proofs.prices.all_ranges.Given as goal

abbrev pub invariant-loop-pair : goal.invariant-loop-pair
invariant-loop-pair l = All IsPair l.rest → All IsPair l.fn.pairs

abbrev pub decreases-loop-pair : goal.decreases-loop-pair
decreases-loop-pair l = length l.rest
