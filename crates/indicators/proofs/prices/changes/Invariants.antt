use Rattle.std.proofs.Common.{◌≡◌, ◌≤◌, ◌++◌, drop}
use Rattle.std.specs.List.{All}
use Rattle.market_types.specs.Ordered.{greatest_price}
use Rattle.indicators.specs.Prices.{each_after, each_but_first, change}
use Rattle.indicators.proofs.prices.changes.Given as goal

abbrev pub invariant-loop-price : goal.invariant-loop-price
invariant-loop-price l = record {
  are : l.changes.items ++ each_after (change l.way) l.before (drop l.price-index l.rest) ≡ each_but_first (change l.way) l.prices;
  most : All (λ x. x ≤ greatest_price) l.changes.items;
  before : l.before ≤ greatest_price;
}
