use Rattle.mql_program.specs.Tables.{types_in, program_in}
use Rattle.mql_program.proofs.Whole.{whole_known}
use Rattle.mql_program.proofs.tables.tables_of.Goals as goal

pub returns : goal.returns
returns g c =
    let given = g.S.SourceFacts.given in
    let types = c.in_ok-types.types in
    whole_known given (program_in given) c.args.source.now types.source.now c.args.names.now types.names.now c.args.items.now
    (types_in given types) c.tables_with.result c.in_ok-types.ensures.source c.in_ok-types.ensures.names c.requires
    c.in_ok-types.ensures.types c.tables_with.ensures
