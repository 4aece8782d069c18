use Rattle.store_frames.proofs.Locals.{no_cell, no_operand, taken, too_many}
use Rattle.store_frames.proofs.parameters.slots.Goals as goal

pub returns-in_default : goal.returns-in_default
returns-in_default c =
    no_cell c.loop-by_reference.cells c.args.lent.now c.loop-by_reference.by_reference-index c.loop-by_reference.rest
    c.loop-by_reference.made _ c.loop-by_reference-test.true c.in_default.ensures.0 c.loop-by_reference.invariant

pub returns-in_default-pop : goal.returns-in_default-pop
returns-in_default-pop c =
    no_operand c.in-Some.cell c.loop-by_reference.cells c.pop.new.self c.args.lent.now
    c.loop-by_reference.by_reference-index c.loop-by_reference.rest c.loop-by_reference.made _
    c.loop-by_reference-test.true c.in-Some.ensures c.in_default-pop.ensures.0 c.loop-by_reference.invariant

pub loop-by_reference-preserved : goal.loop-by_reference-preserved
loop-by_reference-preserved c =
    taken c.in-Some.cell c.loop-by_reference.cells c.pop.new.self c.args.lent.now
    c.loop-by_reference.by_reference-index c.in-Some-pop.operand c.loop-by_reference.rest
    c.pop-in-loop-by_reference.new.self c.loop-by_reference.made c.push.new.self c.in_ok-parameter.field-0
    c.in-Some-2.parameter _ c.loop-by_reference-test.true c.in-Some.ensures c.in-Some-pop.ensures
    c.in_ok-parameter.ensures c.in-Some-2.is c.in_ok-push.ensures.ok c.loop-by_reference.invariant

pub returns-in-Some-pop-2 : goal.returns-in-Some-pop-2
returns-in-Some-pop-2 c =
    too_many c.loop-by_reference.cells c.args.lent.now c.loop-by_reference.by_reference-index c.in-Some-pop-2.field-0
    c.loop-by_reference.rest c.pop-2.new.self c.loop-by_reference.made _ c.loop-by_reference-test.false
    c.in-Some-pop-2.ensures c.loop-by_reference.invariant
