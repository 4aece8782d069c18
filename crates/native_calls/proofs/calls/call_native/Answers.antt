use Rattle.std.proofs.Common.{List, map, subst}
use Rattle.mql_meaning.specs.References.{points, tells_status}
use Rattle.store_cells.specs.Changes.{Leads}
use Rattle.store_frames.specs.declared.operand.Operand.{Operand}
use Rattle.store_frames.specs.Operands.{shown}
use Rattle.stack_world.specs.Acts.{Acts}
use Rattle.native_calls.specs.Outcomes.{runs_lent}
use Rattle.native_calls.proofs.Calling.{call_points, call_runs, call_status}
use Rattle.native_calls.proofs.calls.call_native.Goals as goal

pub returns-in-Points : goal.returns-in-Points
returns-in-Points g c = λ n.
    rw c.by_change.ensures
    (call_points _ c.args.native (map shown c.args.operands) n c.kind_of.result c.kind_of.ensures c.points.result
    c.args.store.now c.args.world.now c.in-Points.is
    (subst (λ (xs : List Operand). Leads (points (map shown xs) c.args.store.now) c.points.result c.args.store.now)
    c.as_slice-operands.ensures c.points.ensures))

pub returns-in-TellsStatus : goal.returns-in-TellsStatus
returns-in-TellsStatus g c = λ n.
    rw c.by_change-in-TellsStatus.ensures
    (call_status _ c.args.native (map shown c.args.operands) n c.kind_of.result c.kind_of.ensures c.tells_status.result
    c.args.store.now c.args.world.now c.in-TellsStatus.is
    (subst (λ (xs : List Operand). Leads (tells_status (map shown xs) c.args.store.now) c.tells_status.result c.args.store.now)
    c.as_slice-operands.ensures c.tells_status.ensures))

pub returns : goal.returns
returns g c = λ n.
    call_runs _ c.args.native (map shown c.args.operands) n c.kind_of.result c.kind_of.ensures c.runs_lent.result
    c.args.store.now c.runs_lent.new.store c.args.world.now c.runs_lent.new.world c.in-OverArguments.is
    (subst (λ (xs : List Operand). Acts g.W.World.answers (runs_lent c.args.native (map shown xs)) c.runs_lent.result n
    c.args.store.now c.runs_lent.new.store c.args.world.now c.runs_lent.new.world)
    c.as_slice-operands.ensures (c.runs_lent.ensures n))
