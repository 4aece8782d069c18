use Rattle.std.proofs.Common.{Ok, Err, ap, sym, ◌∙◌}
use Rattle.tester_sources.proofs.Refusing.{has_syntax, is_judged, tells_fault}
use Rattle.tester_sources.proofs.rules.judge_program_rules.Goals as goal

pub returns-in-Ok-Ok-clause-syntax : goal.returns-in-Ok-Ok-clause-syntax
returns-in-Ok-Ok-clause-syntax c = has_syntax c.args.tokens.now c.args.tree.now c.in-Ok.syntax c.in-Ok.ensures

pub returns-in-Ok-Ok-clause-typed : goal.returns-in-Ok-Ok-clause-typed
returns-in-Ok-Ok-clause-typed c =
    is_judged c.args.sources.now c.args.tokens.now c.args.tree.now c.in-Ok.syntax (Ok c.in-Ok-Ok.checked) c.in-Ok.ensures (sym c.in-Ok-Ok.ensures ∙ c.in-Ok-Ok.field-0-is)

pub returns-in-Ok-Err-clause-refused : goal.returns-in-Ok-Err-clause-refused
returns-in-Ok-Err-clause-refused c =
    tells_fault c.args.entry.now c.args.sources.now c.args.tokens.now c.args.tree.now c.in-Ok-Err.fault c.program_status.result
    (is_judged c.args.sources.now c.args.tokens.now c.args.tree.now c.in-Ok.syntax (Err c.in-Ok-Err.fault) c.in-Ok.ensures (sym c.in-Ok-Err.ensures ∙ c.in-Ok-Err.field-0-is))
    c.program_status.ensures
