use Rattle.std.proofs.Common.{refl, rules}
use Rattle.account.specs.declared.event.Event.TheVariants as event
use Rattle.positions.proofs.Lengths.{of_ok}
use Rattle.desk.proofs.FiringRuns.{quiet_runs}
use Rattle.desk.proofs.firing.trigger_order.Goals as goal

pub returns : goal.returns
returns g c = quiet_runs c.args.books.now c.trigger.new.self (event.Triggered c.args.ticket) tt c.is_sound.ensures.sound refl (of_ok c.trigger.result _ (search rules) c.trigger.ensures.ok)
