use Rattle.std.proofs.Common.{refl, rules}
use Rattle.account.specs.declared.event.Event.TheVariants as event
use Rattle.judgement.specs.declared.return_code.ReturnCode.TheVariants as code
use Rattle.positions.proofs.Lengths.{of_ok}
use Rattle.desk.proofs.Outcomes.{quiet_answers}
use Rattle.desk.proofs.requests.do_stops.Goals as goal

pub returns : goal.returns
returns g c = quiet_answers c.args.books.now c.set_stops.new.self (event.Stops c.args.ticket c.args.sl c.args.tp) code.Done 0 c.answer_without.result c.is_sound.ensures.sound refl (of_ok c.set_stops.result _ (search rules) c.set_stops.ensures.ok) c.answer_without.ensures
