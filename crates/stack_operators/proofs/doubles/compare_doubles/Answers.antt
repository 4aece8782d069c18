use Rattle.std.proofs.Common.{rules, to_z, of_z}
use Rattle.std.specs.Int.{w128}
use Rattle.stack_operators.proofs.Others.{compare_same}
use Rattle.stack_operators.proofs.doubles.compare_doubles.Goals as goal

pub returns : goal.returns
returns c = λ store.
    compare_same c.args.operator c.args.x c.args.y (to_z w128 (of_z w128 c.units.result))
    (to_z w128 (of_z w128 c.units-2.result)) c.compare.result store (search rules) (search rules) (c.compare.ensures store)
