use Rattle.mql_check.specs.Programs.{check}
use Rattle.mql_typing.proofs.source.check_source.Goals as goal

pub returns : goal.returns
unfolding check
returns c = rw c.as_slice-items.ensures at c.typed_items.ensures
