use Rattle.std.proofs.Common.{◌≡◌, ◌≤◌, ◌++◌, drop}
use Rattle.std.specs.List.{All}
use Rattle.market_types.specs.Ordered.{greatest_price}
use Rattle.indicators.specs.Prices.{IsPriced, each_after, true_range, ranges}
use Rattle.indicators.proofs.prices.ranges.Given as goal

abbrev pub invariant-loop-bar : goal.invariant-loop-bar
invariant-loop-bar l = record {
  are : l.ranges.items ++ each_after true_range l.before (drop l.bar-index l.rest) ≡ ranges l.bars;
  most : All (λ x. x ≤ greatest_price) l.ranges.items;
  before : IsPriced l.before;
}
