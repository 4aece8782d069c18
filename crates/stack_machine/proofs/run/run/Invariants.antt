use Rattle.std.specs.Prelude.{◌≡◌, []}
use Rattle.stack_machine.specs.Pace.{left}
use Rattle.stack_machine.specs.Steps.{Run, on}
use Rattle.stack_machine.proofs.run.run.Given as goal

-- the run so far; there are no operands but the machine's own
abbrev pub invariant-run : goal.invariant-run
invariant-run g l = record {
  so_far : Run g.W.NativeFunctions.answers l.code (λ answers. on l.fn.state l.fn.steps [] answers) l.fn.world l.world (on l.state l.steps);
  empty : l.top ≡ [];
}

abbrev pub decreases-run : goal.decreases-run
decreases-run g l = left l.code (on l.state l.steps [] [])
