use Rattle.mql_typing.proofs.source.typed_with.Goals as goal

pub returns : goal.returns
returns c =
    let given = c.source_of-source.ensures c.args.items.now c.requires.values in
    rw given at c.typed_by.ensures
