use Rattle.std.proofs.Common.{rules, FitsSigned, w32, ap, of_z}
use Rattle.std.proofs.lemmas.Int.{to_z-of_z}
use Rattle.std.proofs.lemmas.Result.{IfOk-weaker}
use Rattle.tester_pass.specs.Pass.{of_code}
use Rattle.tester_pass.specs.Runs.{stage}
use Rattle.tester_pass.proofs.Loops.{failed}
use Rattle.tester_pass.proofs.pass.answered.Goals as goal

pub returns-then-answer-ne0-clause-passes : goal.returns-then-answer-ne0-clause-passes
returns-then-answer-ne0-clause-passes c =
    let fits : FitsSigned w32 c.args.answer = search rules in
    let ends = c.fails.ensures.passes in
    IfOk-weaker c.fails.result _ _
    (λ r last. failed (of_code c.args.code.now) c.args.left c.args.answer (stage c.args.run) r
    (λ e. c.if-answer-ne0.true (ap (of_z w32) e)) last)
    (simp to_z-of_z at ends)
