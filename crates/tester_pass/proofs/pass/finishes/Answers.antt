use Rattle.std.proofs.Common.{rules, FitsSigned, w32, pos, subst, Option, None}
use Rattle.std.proofs.lemmas.Int.{to_z-of_z}
use Rattle.std.proofs.lemmas.Result.{IfOk-weaker}
use Rattle.mql_meaning.specs.declared.tree.Entry.TheVariants as entry
use Rattle.tester_pass.specs.declared.result.PassEnd.{PassEnd}
use Rattle.tester_pass.specs.Pass.{of_code, Does}
use Rattle.tester_pass.specs.Runs.{stage}
use Rattle.tester_pass.proofs.pass.finishes.Goals as goal

pub returns : goal.returns
returns c =
    let x = of_code c.args.code.now in
    let fits : FitsSigned w32 c.args.reason = search rules in
    let quitting = c.quits.ensures in
    IfOk-weaker c.quits.result _ _
    (λ halt quits. (
      None,
      stage c.does.new.run,
      subst (λ (h : Option PassEnd). Does x entry.Tester (pos 0) (stage c.args.run.now) h (stage c.does.new.run))
          c.in_default.is c.in_ok-end.ensures,
      quits,
    ))
    (simp to_z-of_z at quitting)
