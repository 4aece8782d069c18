use Rattle.std.proofs.Common.{ℕ, ◌≤◌}
use Rattle.std.specs.List.{All}
use Rattle.std.proofs.lemmas.List.Elements.{All-push, All-drop}
use Rattle.market_types.specs.Ordered.{greatest_price}
use Rattle.indicators.specs.Prices.{IsPriced, true_range}
use Rattle.indicators.proofs.Loops.{after_more}
use Rattle.indicators.proofs.prices.ranges.Goals as goal

pub loop-bar-preserved : goal.loop-bar-preserved
loop-bar-preserved c =
    let r = c.split_at.result.1.now in
    let i = c.loop-bar.bar-index in
    let bar = c.bar-item.result in
    let small = λ (x : ℕ). x ≤ greatest_price in
    let rest : All IsPriced r = rw c.split_at.ensures.back (All-drop IsPriced 1 c.args.bars.now c.requires) in
    record {
      are = rw (c.in_ok-push-2.ensures.items, c.true_range.ensures.value)
          (after_more true_range c.loop-bar.ranges.items _ c.loop-bar.before bar r i c.loop-bar-test.true c.bar-item.is c.loop-bar.invariant.are);
      most = rw c.in_ok-push-2.ensures.items (All-push small c.loop-bar.ranges.items c.true_range.result c.loop-bar.invariant.most c.true_range.ensures.most);
      before = rw c.bar-item.is (rest i bar c.loop-bar-test.true);
    }
