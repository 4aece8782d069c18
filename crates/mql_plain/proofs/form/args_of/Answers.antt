use Rattle.std.proofs.Common.{◌≡◌, arith, ◌∙◌}
use Rattle.std.proofs.lemmas.Grind.{common_steps}
use Rattle.mql_plain.proofs.Args.{args_are, type_args}
use Rattle.mql_plain.proofs.form.args_of.Goals as goal

pub returns : goal.returns
returns c =
    let e : c.as_slice.result.now ≡ type_args c.args.of.now = grind (arith, common_steps) in
    e ∙ args_are c.args.of.now
