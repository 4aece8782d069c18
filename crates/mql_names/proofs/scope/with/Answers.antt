use Rattle.mql_names.proofs.Scopes.{noted}
use Rattle.mql_names.proofs.scope.with.Goals as goal

pub returns : goal.returns
returns c = noted c.args.names c.insert.new.self c.args.name.now c.in_ok-insert.ensures.updates
