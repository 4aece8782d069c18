use Rattle.std.proofs.Common.{refl, rules}
use Rattle.desk.proofs.Paying.{code_answers}
use Rattle.desk.proofs.requests.do_told.Goals as goal

pub returns-in-Refused : goal.returns-in-Refused
returns-in-Refused g c = code_answers c.args.books.now c.args.books.now c.args.time_ms c.args.request.now c.in-Refused.code c.answer_without.result c.is_sound.ensures.sound (search rules) c.answer_without.ensures refl
