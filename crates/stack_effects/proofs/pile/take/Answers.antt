use Rattle.std.proofs.Common.{sym, ◌∙◌}
use Rattle.stack_effects.proofs.Taken.{one_more}
use Rattle.stack_effects.proofs.pile.take.Goals as goal

pub loop-left-preserved : goal.loop-left-preserved
loop-left-preserved c =
    sym (one_more c.loop-left.left c.loop-left.operands c.pop.new.self c.loop-left.taken.items c.push.new.self.items
    c.in-Some.operand c.loop-left-test.true c.in-Some.ensures c.in_ok-push.ensures.items)
    ∙ c.loop-left.invariant
