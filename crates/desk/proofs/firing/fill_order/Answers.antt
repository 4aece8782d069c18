use Rattle.std.proofs.Common.{rules}
use Rattle.positions.proofs.Lengths.{of_ok}
use Rattle.desk.proofs.FiringOrders.{filled_runs}
use Rattle.desk.proofs.firing.fill_order.Goals as goal

pub returns : goal.returns
returns g c = filled_runs c.args.books.now c.deal_order.new.books c.args.fill.now c.in-Ok.enough tt c.requires.fill c.in-Ok.ensures (search rules) (c.is_full.ensures.room (search rules)) (of_ok c.deal_order.result _ (search rules) c.deal_order.ensures.ok)
