use Rattle.account.specs.declared.event.RemovalCause.TheVariants as cause
use Rattle.desk.proofs.FiringOrders.{is_fillable, room_left}
use Rattle.desk.proofs.firing.deal_order.Goals as goal

pub deal-requires-clause-fill : goal.deal-requires-clause-fill
deal-requires-clause-fill g c = is_fillable c.args.books.now c.remove.new.self c.args.fill.now c.in_ok-remove.ensures.ok c.requires.fill

pub deal-requires-clause-room : goal.deal-requires-clause-room
deal-requires-clause-room g c = room_left c.args.books.now c.remove.new.self c.args.fill.now.order cause.Filled c.in_ok-remove.ensures.ok c.requires.room
