use Rattle.std.proofs.Common.{refl, rules}
use Rattle.account.specs.declared.event.Event.TheVariants as event
use Rattle.judgement.specs.declared.return_code.ReturnCode.TheVariants as code
use Rattle.positions.proofs.Lengths.{of_ok}
use Rattle.desk.proofs.Outcomes.{quiet_answers}
use Rattle.desk.proofs.requests.do_change.Goals as goal

pub returns : goal.returns
returns g c = quiet_answers c.args.books.now c.change.new.self (event.Modified c.args.order) code.Done c.args.order.ticket c.answer_without.result c.is_sound.ensures.sound refl (of_ok c.change.result _ (search rules) c.change.ensures.ok) c.answer_without.ensures
