use Rattle.std.proofs.Common.{◌∙◌, ap, add-one, ◌+ℤ◌}
use Rattle.std.specs.Int.{w128, int_wrap}
use Rattle.account.specs.StopOut.{symbol_margin, total_below}
use Rattle.account.proofs.Amounts.{one_more}
use Rattle.account.proofs.margins.hedged_margin.Goals as goal

pub loop-symbol-preserved : goal.loop-symbol-preserved
loop-symbol-preserved c =
    rw (add-one c.loop-symbol.symbol)
    (one_more c.loop-symbol.sum (total_below (symbol_margin c.args.spec.now.specs c.args.spec.now.leverage c.args.positions.now) c.loop-symbol.symbol) _ c.wrapped_sum-sum.result c.loop-symbol.invariant
    (c.wrapped_sum-sum.ensures ∙ ap (λ z. int_wrap w128 (c.loop-symbol.sum +ℤ z)) c.symbol_margin.ensures))
