use Rattle.stack_machine.proofs.Begins.{start_first}
use Rattle.stack_machine.proofs.events.first.Goals as goal

pub returns-in-Start : goal.returns-in-Start
returns-in-Start c = start_first c.args.code.now c.args.entry _ _ _ c.begin.result c.args.store.now c.begin.new.store c.in-Start.is c.as_slice.ensures c.as_slice-in-Start.ensures c.as_slice-in-Start-2.ensures c.begin.ensures
