use Rattle.stack_operators.proofs.Others.{strings_compare}
use Rattle.stack_operators.proofs.strings.on_strings.Goals as goal

pub returns-in_default : goal.returns-in_default
returns-in_default c =
    strings_compare c.args.operator c.args.x c.args.y c.as_slice.result.now c.as_slice-in_default.result.now
    c.compare_strings.result c.args.store.now c.in_default.not-Add (cc) (cc) (c.compare_strings.ensures c.args.store.now)
