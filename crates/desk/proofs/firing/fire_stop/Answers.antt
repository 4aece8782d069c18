use Rattle.std.proofs.Common.{refl, rules}
use Rattle.desk.proofs.FiringOrders.{no_stop_runs}
use Rattle.desk.proofs.firing.fire_stop.Goals as goal

pub returns-then-not-is_open_on : goal.returns-then-not-is_open_on
returns-then-not-is_open_on g c = no_stop_runs c.args.books.now c.args.books.now c.args.time_ms c.args.ticket c.args.buy c.args.reason c.is_open_on.result tt c.is_sound.ensures.sound c.is_open_on.ensures (search rules) refl
