use Rattle.mql_check.proofs.Loops.{judged_from}
use Rattle.mql_check.proofs.program.check_with.Goals as goal

pub returns : goal.returns
returns g c =
    judged_from (g.S.SourceFacts.given c.args.source.now) (g.P.ProgramFacts.program c.args.program.now) _ c.args.items.now c.in_ok-w.w c.judged_of.result c.requires c.in_ok-w.ensures c.judged_of.ensures
