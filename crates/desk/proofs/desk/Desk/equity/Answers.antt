use Rattle.desk.proofs.StopOutDue.{is_priced}
use Rattle.desk.proofs.desk.Desk.equity.Goals as goal

pub equity-requires : goal.equity-requires
equity-requires g c = is_priced c.self.inside.books.quoted c.ledger.result.now c.prices-prices.result.now c.ledger.ensures c.prices-prices.ensures c.is_sound.ensures.quoted c.is_sound.ensures.sound c.ranges-2.ensures
