use Rattle.mql_typing.proofs.source.bodies_told.Goals as goal

pub returns : goal.returns
returns c = rw c.as_slice-items.ensures at c.bodies_in.ensures
