use Rattle.std.proofs.Common.{pos}
use Rattle.std.proofs.lemmas.Result.{IfOk-weaker}
use Rattle.mql_meaning.specs.declared.tree.Entry.TheVariants as entry
use Rattle.tester_pass.specs.Pass.{of_code}
use Rattle.tester_pass.specs.Runs.{stage}
use Rattle.tester_pass.proofs.Times.{happens_timed}
use Rattle.tester_pass.proofs.pass.inits.Goals as goal

pub returns-clause-times : goal.returns-clause-times
returns-clause-times c =
    IfOk-weaker c.after_init.result _ _
    (λ r timed h. timed
    (happens_timed (of_code c.args.code.now) entry.Init (pos 0) (stage c.args.run) (stage c.happens.new.run)
    c.in_ok-end.end c.in_ok-end.ensures h))
    c.after_init.ensures.times
