use Rattle.std.proofs.Common.{[]}
use Rattle.stack_machine.specs.Pace.{left}
use Rattle.stack_machine.specs.Steps.{on}
use Rattle.stack_machine.proofs.Hurries.{led_on, nearer_on, hurried}
use Rattle.stack_machine.proofs.hurry.hurry.Goals as goal

pub hurry-preserved : goal.hurry-preserved
hurry-preserved c = record {
  leads = led_on c.args.code.now c.in_ok-advance.field-0 c.args.state.now c.hurry.state c.advance.new.state c.args.top.now c.hurry.top c.advance.new.top c.args.steps.now c.hurry.steps c.advance.new.steps c.if-not-branch.false c.in_ok-advance.ensures c.hurry.invariant.leads;
  nearer = nearer_on c.args.code.now c.in_ok-advance.field-0 c.hurry.state c.advance.new.state c.hurry.top c.advance.new.top c.hurry.steps c.advance.new.steps (left c.args.code.now (on c.args.state.now c.args.steps.now [] [])) c.if-not-branch.false c.in_ok-advance.ensures c.hurry.invariant.nearer;
}

pub returns : goal.returns
returns c = hurried c.args.code.now c.spill.result c.in_ok-advance.field-0 c.args.state.now c.hurry.state c.advance.new.state c.args.top.now c.hurry.top c.advance.new.top c.spill.new.top c.spill.new.own c.args.steps.now c.hurry.steps c.advance.new.steps c.if-not-branch.true c.requires.empty c.hurry.invariant.leads c.hurry.invariant.nearer c.in_ok-advance.ensures c.spill.ensures
