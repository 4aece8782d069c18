use Rattle.std.proofs.Common.{sym, subst}
use Rattle.std.specs.Prelude.{Ok}
use Rattle.stack_code.specs.declared.code.Effect.{Effect}
use Rattle.stack_code.specs.Machine as machine
use Rattle.stack_unboxed.specs.Unboxed.{Did}
use Rattle.stack_unboxed.proofs.effects.does_unboxed.Goals as goal

pub returns-in-Constant : goal.returns-in-Constant
returns-in-Constant c = λ ts. subst (λ (e : Effect). Did (machine.does_effect c.args.code.now ts e) c.do_constant.result c.args.top.now c.do_constant.new.top c.args.store.now c.args.store.now) (sym c.in-Constant.is) (c.do_constant.ensures ts)

pub returns-in-Apply : goal.returns-in-Apply
returns-in-Apply c = λ ts. subst (λ (e : Effect). Did (machine.does_effect c.args.code.now ts e) c.apply.result c.args.top.now c.apply.new.top c.args.store.now c.apply.new.store) (sym c.in-Apply.is) (c.apply.ensures c.args.code.now.classes)

pub returns-in-Drop : goal.returns-in-Drop
returns-in-Drop c = λ ts. subst (λ (e : Effect). Did (machine.does_effect c.args.code.now ts e) (Ok c.do_drop.result) c.args.top.now c.do_drop.new.top c.args.store.now c.args.store.now) (sym c.in-Drop.is) (c.do_drop.ensures ts)

pub returns-in-Line : goal.returns-in-Line
returns-in-Line c = λ ts. subst (λ (e : Effect). Did (machine.does_effect c.args.code.now ts e) (Ok c.do_line.result) c.args.top.now c.args.top.now c.args.store.now c.do_line.new.store) (sym c.in-Line.is) (c.do_line.ensures ts)
