use Rattle.std.proofs.Common.{rules, FitsSigned, w32, ℤ, sym, subst}
use Rattle.std.proofs.lemmas.Int.{to_z-of_z}
use Rattle.std.proofs.lemmas.Result.{IfOk-weaker}
use Rattle.stack_machine.specs.declared.ends.End.{End}
use Rattle.tester_pass.specs.Pass.{of_code, Answered, AfterInit}
use Rattle.tester_pass.specs.Runs.{stage}
use Rattle.tester_pass.proofs.pass.after_init.Goals as goal

pub returns-in-Returned-clause-passes : goal.returns-in-Returned-clause-passes
returns-in-Returned-clause-passes c =
    let x = of_code c.args.code.now in
    let fits : FitsSigned w32 c.answer_of.result = search rules in
    let goes_on = c.answered.ensures.passes in
    IfOk-weaker c.answered.result _ _
    (λ r answered.
    subst (λ (e : End). AfterInit x c.args.left e (stage c.args.run) r) (sym c.in-Returned.is)
    (subst (λ (n : ℤ). Answered x c.args.left n (stage c.args.run) r) c.answer_of.ensures answered))
    (simp to_z-of_z at goes_on)
