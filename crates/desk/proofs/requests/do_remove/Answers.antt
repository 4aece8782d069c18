use Rattle.std.proofs.Common.{refl, rules}
use Rattle.account.specs.declared.event.Event.TheVariants as event
use Rattle.account.specs.declared.event.RemovalCause.TheVariants as cause
use Rattle.judgement.specs.declared.return_code.ReturnCode.TheVariants as code
use Rattle.positions.proofs.Lengths.{of_ok}
use Rattle.desk.proofs.Outcomes.{quiet_answers}
use Rattle.desk.proofs.requests.do_remove.Goals as goal

pub returns : goal.returns
returns g c = quiet_answers c.args.books.now c.remove.new.self (event.Removed c.args.ticket cause.Request) code.Done c.args.ticket c.answer_without.result c.is_sound.ensures.sound refl (of_ok c.remove.result _ (search rules) c.remove.ensures.ok) c.answer_without.ensures
