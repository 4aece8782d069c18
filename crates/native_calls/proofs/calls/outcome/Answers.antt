use Rattle.std.proofs.Common.{List, map, subst}
use Rattle.native_arguments.specs.Arguments.{all_shown}
use Rattle.native_arguments.specs.declared.argument.Argument.{Argument}
use Rattle.store_frames.specs.Operands.{shown}
use Rattle.stack_world.specs.Acts.{Acts}
use Rattle.native_calls.specs.Outcomes.{comes_to}
use Rattle.native_calls.proofs.Calling.{outcome_goes, outcome_off}
use Rattle.native_calls.proofs.calls.outcome.Goals as goal

pub returns-in-Ok : goal.returns-in-Ok
returns-in-Ok g c = λ n.
    outcome_goes _ c.args.native (map shown c.args.operands.now) (all_shown c.in-Ok.arguments) c.comes_to.result n
    c.args.store.now c.args.world.now c.comes_to.new.world c.in-Ok.ensures
    (subst (λ (xs : List Argument). Acts g.W.World.answers (comes_to c.args.native (all_shown xs)) c.comes_to.result n c.args.store.now
    c.args.store.now c.args.world.now c.comes_to.new.world) c.as_slice.ensures (c.comes_to.ensures n))

pub returns-in-Err : goal.returns-in-Err
returns-in-Err g c = λ n.
    rw c.halted.ensures
    (outcome_off _ c.args.native (map shown c.args.operands.now) c.in-Err.fault n c.args.store.now c.args.world.now
    c.in-Err.ensures)
