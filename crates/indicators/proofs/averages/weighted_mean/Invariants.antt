use Rattle.std.proofs.Common.{◌≡◌, ◌≤◌, ◌*◌, ◌+◌, drop}
use Rattle.market_types.specs.Ordered.{greatest_price}
use Rattle.indicators.specs.Averages.{weighted_sum}
use Rattle.indicators.proofs.averages.weighted_mean.Given as goal

abbrev pub invariant-loop-number : goal.invariant-loop-number
invariant-loop-number l = record {
  weight : l.weight ≡ l.number-index;
  weights : 2 * l.weights ≡ l.number-index * (l.number-index + 1);
  is : l.total + weighted_sum (l.weight + 1) (drop l.number-index l.numbers) ≡ weighted_sum 1 l.numbers;
  most : l.total ≤ l.weights * greatest_price;
  few : l.weights ≤ l.number-index * 10000;
}
