use Rattle.std.proofs.Common.{[]}
use Rattle.stack_machine.specs.Ends.{as_ended}
use Rattle.stack_machine.specs.Pace.{left}
use Rattle.stack_machine.specs.Steps.{on, over}
use Rattle.stack_machine.proofs.Hurries.{falls_on}
use Rattle.stack_machine.proofs.Turns.{run_starts, run_on, run_led}
use Rattle.stack_machine.proofs.run.run.Goals as goal

pub run-init : goal.run-init
run-init g c = record { so_far = run_starts _ _ _ _ _; empty = c.new-top.ensures }

pub run-preserved : goal.run-preserved
run-preserved g c = record {
  so_far = run_on _ _ (λ answers. on c.args.state.now c.args.steps.now [] answers) _ _ _ c.hurry.new.state c.hurry.new.steps _ (run_led _ _ (λ answers. on c.args.state.now c.args.steps.now [] answers) _ _ c.run.state c.hurry.new.state c.run.steps c.hurry.new.steps c.run.invariant.so_far c.in_ok-hurry.ensures.0) c.in-Ok.ensures.does;
  empty = c.in_ok-hurry.ensures.1;
}

pub returns-in-Err-End : goal.returns-in-Err-End
returns-in-Err-End g c = rw c.in-Err-End.end-is (run_on _ _ (λ answers. on c.args.state.now c.args.steps.now [] answers) _ _ _ c.hurry.new.state c.hurry.new.steps (over (as_ended c.in-Err-End.end) c.step.new.state.store c.step.new.steps) (run_led _ _ (λ answers. on c.args.state.now c.args.steps.now [] answers) _ _ c.run.state c.hurry.new.state c.run.steps c.hurry.new.steps c.run.invariant.so_far c.in_ok-hurry.ensures.0) (rw c.in-Err-End.field-0-is at c.in-Err-End.ensures.does))

pub run-smaller : goal.run-smaller
run-smaller g c = falls_on (left c.args.code.now (on c.hurry.new.state c.hurry.new.steps [] [])) (left c.args.code.now (on c.step.new.state c.step.new.steps [] [])) (left c.args.code.now (on c.run.state c.run.steps [] [])) c.in-Ok.ensures.nearer c.in_ok-hurry.ensures.2
