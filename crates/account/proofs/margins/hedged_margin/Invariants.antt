use Rattle.std.proofs.Common.{◌≡◌}
use Rattle.std.specs.Int.{w128, int_wrap}
use Rattle.account.specs.StopOut.{symbol_margin, total_below}
use Rattle.account.proofs.margins.hedged_margin.Given as goal

abbrev pub invariant-loop-symbol : goal.invariant-loop-symbol
invariant-loop-symbol l =
    l.sum ≡ int_wrap w128 (total_below (symbol_margin l.spec.specs l.spec.leverage l.positions) l.symbol)
