use Rattle.stack_operators.proofs.Others.{doubles_compare}
use Rattle.stack_operators.proofs.doubles.on_doubles.Goals as goal

pub returns-in_default : goal.returns-in_default
returns-in_default c =
    doubles_compare c.args.operator c.args.x c.args.y c.compare_doubles.result c.args.store.now c.in_default.not-Add
    c.in_default.not-Subtract c.in_default.not-Multiply c.in_default.not-Divide (c.compare_doubles.ensures c.args.store.now)
