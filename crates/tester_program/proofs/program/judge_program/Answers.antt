use Rattle.std.proofs.lemmas.Result.{err_from_is_err_and}
use Rattle.std.proofs.Common.{inr}
use Rattle.tester_program.proofs.Running.{is_program, is_refused, rules_refused}
use Rattle.tester_program.proofs.program.judge_program.Goals as goal

pub returns-in_err-syntax-clause-refused : goal.returns-in_err-syntax-clause-refused
returns-in_err-syntax-clause-refused c =
    let p = err_from_is_err_and c.from_residual-in_err-syntax.result c.from_residual-in_err-syntax.ensures.1 in
    rw (p.1, p.2)
    (inr (
      c.in_ok-tree.tree,
      c.in_ok-tree.ensures.tree,
      rules_refused c.args.entry.now c.args.sources.now c.args.tokens.now c.in_ok-tree.tree _ c.in_err-syntax.ensures.refused,
    ))

pub returns-in-Ok-Ok-clause-program : goal.returns-in-Ok-Ok-clause-program
returns-in-Ok-Ok-clause-program c =
    is_program c.args.sources.now c.args.tokens.now c.in_ok-tree.tree c.in_ok-syntax.syntax c.in_ok-syntax.checked c.in-Ok-Ok.code c.in_ok-tree.ensures.tree
    c.in_ok-syntax.ensures.syntax c.in_ok-syntax.ensures.typed (rw c.in-Ok-Ok.field-0-is at c.in-Ok-Ok.ensures)

pub returns-in-Ok-Err-clause-refused : goal.returns-in-Ok-Err-clause-refused
returns-in-Ok-Err-clause-refused c =
    is_refused c.args.entry.now c.args.sources.now c.args.tokens.now c.in_ok-tree.tree c.in_ok-syntax.syntax c.in_ok-syntax.checked c.in-Ok-Err.fault _ c.in_ok-tree.ensures.tree
    c.in_ok-syntax.ensures.syntax c.in_ok-syntax.ensures.typed (rw c.in-Ok-Err.field-0-is at c.in-Ok-Err.ensures) c.run_status.ensures
