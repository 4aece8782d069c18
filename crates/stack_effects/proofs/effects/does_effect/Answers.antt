use Rattle.std.proofs.Common.{List, subst}
use Rattle.mql_meaning.specs.declared.tree.Class.{Class}
use Rattle.stack_code.specs.declared.code.Effect.TheVariants as effects
use Rattle.stack_code.specs.Machine.{operands_of}
use Rattle.stack_effects.specs.Works.{Works, applies}
use Rattle.stack_effects.proofs.Known.{at_effect}
use Rattle.stack_effects.proofs.effects.does_effect.Goals as goal

pub returns-in-Constant : goal.returns-in-Constant
returns-in-Constant c =
    at_effect c.args.code.now c.args.locals.now c.args.effect (effects.Constant c.in-Constant.number) c.do_constant.result c.args.operands.now
    c.do_constant.new.operands c.args.store.now c.args.store.now c.in-Constant.is (c.do_constant.ensures c.args.locals.now)

pub returns-in-Apply : goal.returns-in-Apply
returns-in-Apply c =
    at_effect c.args.code.now c.args.locals.now c.args.effect (effects.Apply c.in-Apply.operator) c.apply.result
    c.args.operands.now c.apply.new.operands c.args.store.now c.apply.new.store c.in-Apply.is
    (subst (λ (cs : List Class). Works (applies (operands_of c.in-Apply.operator) cs c.in-Apply.operator) c.apply.result
    c.args.operands.now c.apply.new.operands c.args.store.now c.apply.new.store) c.as_slice.ensures c.apply.ensures)

pub returns-in-Write : goal.returns-in-Write
returns-in-Write c =
    at_effect c.args.code.now c.args.locals.now c.args.effect effects.Write c.do_write.result c.args.operands.now
    c.do_write.new.operands c.args.store.now c.do_write.new.store c.in-Write.is (c.do_write.ensures c.args.locals.now)

pub returns-in-Copy : goal.returns-in-Copy
returns-in-Copy c =
    at_effect c.args.code.now c.args.locals.now c.args.effect effects.Copy c.do_copy.result c.args.operands.now
    c.do_copy.new.operands c.args.store.now c.do_copy.new.store c.in-Copy.is (c.do_copy.ensures c.args.locals.now)

pub returns-in-Drop : goal.returns-in-Drop
returns-in-Drop c =
    at_effect c.args.code.now c.args.locals.now c.args.effect effects.Drop c.do_drop.result c.args.operands.now
    c.do_drop.new.operands c.args.store.now c.args.store.now c.in-Drop.is (c.do_drop.ensures c.args.locals.now)

pub returns-in-Twice : goal.returns-in-Twice
returns-in-Twice c =
    at_effect c.args.code.now c.args.locals.now c.args.effect effects.Twice c.do_twice.result c.args.operands.now
    c.do_twice.new.operands c.args.store.now c.args.store.now c.in-Twice.is (c.do_twice.ensures c.args.locals.now)
