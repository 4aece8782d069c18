use Rattle.std.proofs.Common.{◌≡◌, ◌≤◌, ◌*◌, sum, take}
use Rattle.market_types.specs.Ordered.{greatest_price}
use Rattle.indicators.proofs.averages.total.Given as goal

abbrev pub invariant-loop-number : goal.invariant-loop-number
invariant-loop-number l = record {
  is : l.total ≡ sum (take l.number-index l.numbers);
  most : l.total ≤ l.number-index * greatest_price;
}
