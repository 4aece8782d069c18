use Rattle.std.proofs.Common.{sym, ◌∙◌, length, ◌+◌}
use Rattle.mql_spelling.proofs.Powers.{kept_of_none, kept_of_some}
use Rattle.mql_spelling.proofs.real.value_of.Goals as goal

pub returns-in-None : goal.returns-in-None
returns-in-None c = λ o h. kept_of_none c.args.digits.now (length c.args.digits.now + 20) o (sym c.in-None.is ∙ h)

pub returns-in-Some : goal.returns-in-Some
returns-in-Some c = λ o h. kept_of_some c.args.digits.now (length c.args.digits.now + 20) c.in-Some.count _ o (sym c.in-Some.is ∙ h) c.kept.ensures
