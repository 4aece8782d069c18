use Rattle.mql_typing.proofs.source.bodies_with.Goals as goal

pub returns : goal.returns
returns c =
    let source = c.source_of-source.ensures c.args.items.now c.requires.values in
    let tokens = rw c.requires.tokens at source in
    let given = rw c.requires.files at tokens in
    rw given at c.unmet_by.ensures
