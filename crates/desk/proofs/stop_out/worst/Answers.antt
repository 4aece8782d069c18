use Rattle.desk.proofs.StopOutDue.{is_priced}
use Rattle.desk.proofs.stop_out.worst.Goals as goal

pub worst-requires : goal.worst-requires
worst-requires g c = is_priced c.args.books.now.quoted c.ledger.result.now c.prices-prices.result.now c.ledger.ensures c.prices-prices.ensures c.is_sound.ensures.quoted c.is_sound.ensures.sound c.ranges-2.ensures
