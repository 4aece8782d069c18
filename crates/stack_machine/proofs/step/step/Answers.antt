use Rattle.std.proofs.Common.{sym}
use Rattle.stack_code.specs.declared.code.Instruction.TheVariants as op
use Rattle.stack_machine.proofs.Falls.{nearer, native_nearer}
use Rattle.stack_machine.proofs.Turns.{no_instruction, quiet_steps}
use Rattle.stack_machine.proofs.step.step.Goals as goal

pub returns-in-None : goal.returns-in-None
returns-in-None g c = record {
  does = no_instruction _ c.args.code.now c.args.state.now _ _ (sym c.in-None.ensures.value);
  nearer = tt;
}

pub returns-in-Some-Plain : goal.returns-in-Some-Plain
returns-in-Some-Plain g c =
    let here = rw c.in-Some-Plain.field-0-is at (sym c.in-Some-Plain.ensures.value) in
    record {
      does = quiet_steps _ c.args.code.now (op.Plain c.in-Some-Plain.what) c.args.state.now _ _ _ _ _ here (c.plain.ensures _);
      nearer = nearer c.args.code.now c.requires (op.Plain c.in-Some-Plain.what) c.args.state.now _ _ _ _ here (c.plain.ensures _);
    }

pub returns-in-Some-Jump : goal.returns-in-Some-Jump
returns-in-Some-Jump g c =
    let here = rw c.in-Some-Jump.field-0-is at (sym c.in-Some-Jump.ensures.value) in
    record {
      does = quiet_steps _ c.args.code.now (op.Jump c.in-Some-Jump.label) c.args.state.now _ _ _ _ _ here (c.jump.ensures _);
      nearer = nearer c.args.code.now c.requires (op.Jump c.in-Some-Jump.label) c.args.state.now _ _ _ _ here (c.jump.ensures _);
    }

pub returns-in-Some-Unless : goal.returns-in-Some-Unless
returns-in-Some-Unless g c =
    let here = rw c.in-Some-Unless.field-0-is at (sym c.in-Some-Unless.ensures.value) in
    record {
      does = quiet_steps _ c.args.code.now (op.Unless c.in-Some-Unless.label) c.args.state.now _ _ _ _ _ here (c.unless.ensures _);
      nearer = nearer c.args.code.now c.requires (op.Unless c.in-Some-Unless.label) c.args.state.now _ _ _ _ here (c.unless.ensures _);
    }

pub returns-in-Some-Step : goal.returns-in-Some-Step
returns-in-Some-Step g c =
    let here = rw c.in-Some-Step.field-0-is at (sym c.in-Some-Step.ensures.value) in
    record {
      does = quiet_steps _ c.args.code.now op.Step c.args.state.now _ _ _ _ _ here c.spend.ensures;
      nearer = nearer c.args.code.now c.requires op.Step c.args.state.now _ _ _ _ here c.spend.ensures;
    }

pub returns-in-Some-Call : goal.returns-in-Some-Call
returns-in-Some-Call g c =
    let here = rw c.in-Some-Call.field-0-is at (sym c.in-Some-Call.ensures.value) in
    record {
      does = quiet_steps _ c.args.code.now (op.Call c.in-Some-Call.function) c.args.state.now _ _ _ _ _ here (c.call.ensures _);
      nearer = nearer c.args.code.now c.requires (op.Call c.in-Some-Call.function) c.args.state.now _ _ _ _ here (c.call.ensures _);
    }

pub returns-in-Some-Native : goal.returns-in-Some-Native
returns-in-Some-Native g c =
    let here = rw c.in-Some-Native.field-0-is at (sym c.in-Some-Native.ensures.value) in
    record {
      does = c.ask.ensures.does _;
      nearer = native_nearer c.args.code.now c.args.state.now _ _ _ c.in-Some-Native.native c.in-Some-Native.count here c.ask.ensures.follows;
    }

pub returns-in-Some-Return : goal.returns-in-Some-Return
returns-in-Some-Return g c =
    let here = rw c.in-Some-Return.field-0-is at (sym c.in-Some-Return.ensures.value) in
    record {
      does = quiet_steps _ c.args.code.now op.Return c.args.state.now _ _ _ _ _ here (c.give_back.ensures _);
      nearer = nearer c.args.code.now c.requires op.Return c.args.state.now _ _ _ _ here (c.give_back.ensures _);
    }
