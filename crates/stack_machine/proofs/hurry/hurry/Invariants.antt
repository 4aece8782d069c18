use Rattle.std.specs.Prelude.{◌≤◌, []}
use Rattle.stack_machine.specs.Pace.{left}
use Rattle.stack_machine.specs.Quick.{Leads}
use Rattle.stack_machine.specs.Steps.{on}
use Rattle.stack_machine.proofs.hurry.hurry.Given as goal

-- the instructions so far
abbrev pub invariant-hurry : goal.invariant-hurry
invariant-hurry l = record {
  leads : Leads l.code l.fn.state l.fn.top l.fn.steps l.state l.top l.steps;
  nearer : left l.code (on l.state l.steps [] []) ≤ left l.code (on l.fn.state l.fn.steps [] []);
}

abbrev pub decreases-hurry : goal.decreases-hurry
decreases-hurry l = left l.code (on l.state l.steps [] [])
