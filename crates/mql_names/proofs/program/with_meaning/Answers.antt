use Rattle.mql_names.proofs.MeantMore.{meant_held}
use Rattle.mql_names.proofs.program.with_meaning.Goals as goal

pub returns : goal.returns
returns c = λ ms h. meant_held c.args.names c.insert.new.self c.args.name.now c.args.means ms c.in_ok-insert.ensures.updates h
