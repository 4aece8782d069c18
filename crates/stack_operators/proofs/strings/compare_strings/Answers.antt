use Rattle.std.proofs.Common.{rules, pos, refl, to_z, of_z}
use Rattle.std.specs.Int.{w128}
use Rattle.mql_meaning.specs.Operators.{order}
use Rattle.stack_operators.proofs.Others.{compare_same}
use Rattle.stack_operators.proofs.strings.compare_strings.Goals as goal

pub returns : goal.returns
returns c = λ store.
    compare_same c.args.operator (order c.args.x.now c.args.y.now) (pos 0) (to_z w128 (of_z w128 c.rank.result)) (pos 0)
    c.compare.result store (search rules) refl (c.compare.ensures store)
