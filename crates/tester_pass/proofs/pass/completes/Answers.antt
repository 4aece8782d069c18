use Rattle.std.proofs.Common.{rules, FitsSigned, w32, ap, ◌∙◌}
use Rattle.std.proofs.lemmas.Int.{to_z-of_z}
use Rattle.tester_pass.specs.declared.result.PassEnd.{PassEnd}
use Rattle.tester_pass.specs.Pass.{of_code, ends_here}
use Rattle.tester_pass.specs.Runs.{stage}
use Rattle.tester_pass.proofs.Times.{finished_timed}
use Rattle.tester_pass.proofs.pass.completes.Goals as goal

pub returns-clause-passes : goal.returns-clause-passes
returns-clause-passes c =
    let fits : FitsSigned w32 c.args.reason = search rules in
    let finished = c.in_ok-halt.ensures in (
      c.in_ok-halt.halt,
      stage c.finishes.new.run,
      simp to_z-of_z at finished,
      c.ends_here.ensures ∙ ap (λ (e : PassEnd). ends_here e (stage c.finishes.new.run)) c.ended_by.ensures,
    )

pub returns-clause-times : goal.returns-clause-times
returns-clause-times c =
    finished_timed (of_code c.args.code.now) c.args.reason c.args.end (stage c.args.run) c.ends_here.result
    (returns-clause-passes c)
