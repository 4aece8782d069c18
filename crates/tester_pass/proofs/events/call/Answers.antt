use Rattle.std.proofs.Common.{rules, FitsSigned, w32}
use Rattle.std.proofs.lemmas.Int.{to_z-of_z}
use Rattle.std.proofs.lemmas.Result.{IfOk-weaker}
use Rattle.tester_pass.proofs.Leading.{called}
use Rattle.tester_pass.proofs.events.call.Goals as goal

pub returns : goal.returns
returns c =
    let fits : FitsSigned w32 c.args.arg = search rules in
    let ends = c.call.ensures in
    IfOk-weaker c.call.result _ _
    (λ e ends. called c.args.code.now c.args.entry c.args.arg c.args.run.now.machine _ c.args.run.now.steps _
    c.args.run.now.world _ e c.args.run.now.quotes c.args.run.now.loud ends)
    (simp to_z-of_z at ends)
