use Rattle.mql_decls.proofs.Joined.{by_names}
use Rattle.mql_decls.proofs.judge.first_broken.Goals as goal

pub returns : goal.returns
returns c = by_names c.in_ok-names.names c.args.syntax.now c.all_told.result (rw c.as_slice.ensures at c.in_ok-names.ensures) c.all_told.ensures
