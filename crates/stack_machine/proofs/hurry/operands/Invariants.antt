use Rattle.std.specs.Prelude.{◌≡◌, ◌++◌, map, length}
use Rattle.store_frames.specs.Operands.{shown}
use Rattle.stack_unboxed.specs.Unboxed.{boxed}
use Rattle.stack_machine.proofs.hurry.operands.Given as goal

-- what is listed and what is left are all the operands
abbrev pub invariant-loop-unboxed : goal.invariant-loop-unboxed
invariant-loop-unboxed l = map shown l.list ++ map boxed l.top ≡ map boxed l.fn.top

abbrev pub decreases-loop-unboxed : goal.decreases-loop-unboxed
decreases-loop-unboxed l = length l.top
