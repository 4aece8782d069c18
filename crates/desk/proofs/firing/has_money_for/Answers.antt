use Rattle.desk.proofs.Room.{has_room_at}
use Rattle.desk.proofs.firing.has_money_for.Goals as goal

pub has_money-requires-clause-room : goal.has_money-requires-clause-room
has_money-requires-clause-room g c = has_room_at c.args.books.now.quoted c.ledger.result.now c.prices.result.now c.ledger.ensures c.prices.ensures c.is_sound.ensures.quoted c.is_sound.ensures.sound
