use Rattle.std.proofs.Common.{◌≡◌, length}
use Rattle.mql_tree.specs.Text.{is_odd}
use Rattle.mql_tree.proofs.text.is_odd.Given as goal

abbrev pub invariant-loop-rest : goal.invariant-loop-rest
invariant-loop-rest l = is_odd l.rest ≡ is_odd l.fn.bytes

abbrev pub decreases-loop-rest : goal.decreases-loop-rest
decreases-loop-rest l = length l.rest
