use Rattle.desk.proofs.Room.{has_room_at}
use Rattle.desk.proofs.requests.told.Goals as goal

pub judge_request-requires-clause-room : goal.judge_request-requires-clause-room
judge_request-requires-clause-room g c = has_room_at c.args.books.now.quoted c.ledger.result.now c.prices.result.now c.ledger.ensures c.prices.ensures c.is_sound.ensures.quoted c.is_sound.ensures.sound
