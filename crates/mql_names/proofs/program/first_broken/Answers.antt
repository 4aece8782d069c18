use Rattle.mql_names.proofs.MeantMore.{told_by_names}
use Rattle.mql_names.proofs.program.first_broken.Goals as goal

pub returns : goal.returns
returns c = told_by_names c.in_ok-names.names c.args.syntax.now c.told_with.result (rw c.as_slice.ensures at c.in_ok-names.ensures) c.told_with.ensures
