use Rattle.std.proofs.Common.{pos, sym, subst}
use Rattle.std.proofs.lemmas.Result.{IfOk-weaker}
use Rattle.mql_meaning.specs.declared.tree.Entry.TheVariants as entry
use Rattle.tester_pass.specs.Laws.{InTime}
use Rattle.tester_pass.specs.Pass.{of_code}
use Rattle.tester_pass.specs.Runs.{stage}
use Rattle.tester_pass.proofs.Times.{does_timed, first_timed}
use Rattle.tester_pass.proofs.pass.whole.Goals as goal

pub returns-in-Some-clause-times : goal.returns-in-Some-clause-times
returns-in-Some-clause-times c =
    subst InTime (sym c.ends_here.ensures)
    (does_timed (of_code c.args.code.now) entry.Start (pos 0) (stage c.first-run.result) c.in_ok-end.field-0
    (stage c.does.new.run) c.in_ok-end.ensures
    (first_timed c.args.set (stage c.first-run.result) c.first-run.ensures)).1

pub returns-clause-times : goal.returns-clause-times
returns-clause-times c =
    IfOk-weaker c.inits.result _ _
    (λ r timed. timed
    (does_timed (of_code c.args.code.now) entry.Start (pos 0) (stage c.first-run.result) c.in_ok-end.field-0
    (stage c.does.new.run) c.in_ok-end.ensures
    (first_timed c.args.set (stage c.first-run.result) c.first-run.ensures)))
    c.inits.ensures.times
