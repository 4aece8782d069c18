use Rattle.std.specs.Prelude.{◌≡◌, drop, map}
use Rattle.native_arguments.specs.Arguments.{all_shown}
use Rattle.store_frames.specs.Operands.{shown}
use Rattle.native_calls.specs.Lent.{lends}
use Rattle.native_calls.proofs.Loans.{ahead}
use Rattle.native_calls.proofs.lending.lent.Given as goal

abbrev pub invariant-loop-operand : goal.invariant-loop-operand
invariant-loop-operand l =
    lends (map shown l.operands) l.store
    ≡ ahead (all_shown l.all) (lends (map shown (drop l.operand-index l.operands)) l.store)
