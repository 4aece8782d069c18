use Rattle.std.proofs.Common.{refl, rules}
use Rattle.account.specs.declared.event.Event.TheVariants as event
use Rattle.account.specs.declared.event.RemovalCause.TheVariants as cause
use Rattle.positions.proofs.Lengths.{of_ok}
use Rattle.desk.proofs.FiringRuns.{quiet_runs}
use Rattle.desk.proofs.firing.refuse_order.Goals as goal

pub returns : goal.returns
returns g c = quiet_runs c.args.books.now c.remove.new.self (event.Removed c.args.ticket cause.NoMoney) tt c.is_sound.ensures.sound refl (of_ok c.remove.result _ (search rules) c.remove.ensures.ok)
