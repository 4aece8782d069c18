use Rattle.std.proofs.Common.{ℕ, ◌≤◌, get_or}
use Rattle.std.specs.List.{All}
use Rattle.std.proofs.lemmas.List.{get_or_default}
use Rattle.std.proofs.lemmas.List.Elements.{All-push, All-drop, All-get_or}
use Rattle.market_types.specs.Ordered.{greatest_price}
use Rattle.indicators.specs.Prices.{change}
use Rattle.indicators.proofs.Loops.{after_more}
use Rattle.indicators.proofs.prices.changes.Goals as goal

pub loop-price-preserved : goal.loop-price-preserved
loop-price-preserved c =
    let r = c.split_at.result.1.now in
    let i = c.loop-price.price-index in
    let small = λ (x : ℕ). x ≤ greatest_price in
    let rest : All small r = rw c.split_at.ensures.back (All-drop small 1 c.args.prices.now c.requires) in
    record {
      are = rw (c.in_ok-push.ensures.items, c.change.ensures.value)
          (after_more (change c.args.way) c.loop-price.changes.items _ c.loop-price.before (get_or r i 0) r i c.loop-price-test.true
          (get_or_default r i 0 (get_or r i 0) c.loop-price-test.true) c.loop-price.invariant.are);
      most = rw c.in_ok-push.ensures.items (All-push small c.loop-price.changes.items c.change.result c.loop-price.invariant.most c.change.ensures.most);
      before = All-get_or small r i 0 c.loop-price-test.true rest;
    }
