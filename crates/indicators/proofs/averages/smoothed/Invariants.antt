use Rattle.std.proofs.Common.{◌≡◌, ◌≤◌, take}
use Rattle.std.specs.List.{fold}
use Rattle.market_types.specs.Ordered.{greatest_price}
use Rattle.indicators.specs.Averages.{smoothed_next}
use Rattle.indicators.proofs.averages.smoothed.Given as goal

abbrev pub invariant-loop-number : goal.invariant-loop-number
invariant-loop-number l = record {
  is : l.value ≡ fold (smoothed_next l.n) l.initial.value (take l.number-index l.rest);
  most : l.value ≤ greatest_price;
}
