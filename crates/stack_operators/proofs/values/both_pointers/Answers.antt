use Rattle.std.proofs.Common.{rules, pos, to_z, of_z}
use Rattle.std.specs.Int.{w128}
use Rattle.stack_operators.proofs.Others.{both_serials, compare_same}
use Rattle.stack_operators.proofs.values.both_pointers.Goals as goal

pub returns : goal.returns
returns c = λ store.
    both_serials c.args.operator c.args.x.now c.args.y.now c.in-Some.x c.in-Some-serial_of.y c.compare.result store (cc) (cc)
    (compare_same c.args.operator (pos c.in-Some.x) (pos c.in-Some-serial_of.y) (to_z w128 (of_z w128 c.number.result))
    (to_z w128 (of_z w128 c.number-2.result)) c.compare.result store (search rules) (search rules)
    (c.compare.ensures store))
