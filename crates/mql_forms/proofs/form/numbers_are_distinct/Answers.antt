use Rattle.mql_forms.proofs.Numbers.{one_number}
use Rattle.mql_forms.proofs.form.numbers_are_distinct.Goals as goal

pub returns : goal.returns
returns c = one_number
