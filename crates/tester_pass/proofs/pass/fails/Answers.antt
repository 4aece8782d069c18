use Rattle.std.proofs.Common.{rules, FitsSigned, w32, pos, ap, ◌∙◌}
use Rattle.std.proofs.lemmas.Int.{to_z-of_z}
use Rattle.tester_pass.specs.declared.result.PassEnd.{PassEnd}
use Rattle.tester_pass.specs.declared.result.PassEnd.TheVariants as end
use Rattle.tester_pass.specs.Pass.{of_code, ends_here}
use Rattle.tester_pass.specs.Runs.{stage}
use Rattle.tester_pass.proofs.Times.{quit_timed}
use Rattle.tester_pass.proofs.pass.fails.Goals as goal

pub returns-clause-passes : goal.returns-clause-passes
returns-clause-passes c =
    let fits : FitsSigned w32 c.args.answer = search rules in
    let ended = c.ended_by.ensures in (
      c.in_ok-halt.halt,
      stage c.quits.new.run,
      c.in_ok-halt.ensures,
      c.ends_here.ensures ∙ ap (λ (e : PassEnd). ends_here e (stage c.quits.new.run)) (simp to_z-of_z at ended),
    )

pub returns-clause-times : goal.returns-clause-times
returns-clause-times c =
    quit_timed (of_code c.args.code.now) (pos 8) (end.InitFailed c.args.answer) (stage c.args.run) c.ends_here.result
    (returns-clause-passes c)
