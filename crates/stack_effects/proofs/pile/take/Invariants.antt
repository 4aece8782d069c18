use Rattle.std.proofs.Common.{◌≡◌, []}
use Rattle.std.specs.Prelude.{reverse}
use Rattle.stack_code.specs.Machine.{takes}
use Rattle.stack_effects.specs.Works.{all_shown}
use Rattle.stack_effects.proofs.pile.take.Given as goal

abbrev pub invariant-loop-left : goal.invariant-loop-left
invariant-loop-left l =
    takes l.left (all_shown l.operands) (all_shown (reverse l.taken.items))
    ≡ takes l.count (all_shown l.initial.operands) []

abbrev pub decreases-loop-left : goal.decreases-loop-left
decreases-loop-left l = l.left
