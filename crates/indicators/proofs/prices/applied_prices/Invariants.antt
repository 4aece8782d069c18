use Rattle.std.proofs.Common.{◌≡◌, ◌≤◌, take, map}
use Rattle.std.specs.List.{All}
use Rattle.market_types.specs.Ordered.{greatest_price}
use Rattle.indicators.specs.Prices.{applied_price}
use Rattle.indicators.proofs.prices.applied_prices.Given as goal

abbrev pub invariant-loop-bar : goal.invariant-loop-bar
invariant-loop-bar l = record {
  are : l.prices.items ≡ map (applied_price l.price) (take l.bar-index l.bars);
  most : All (λ x. x ≤ greatest_price) l.prices.items;
}
