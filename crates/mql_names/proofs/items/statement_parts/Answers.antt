use Rattle.std.proofs.Common.{◌≡◌, arith, ◌∙◌}
use Rattle.std.proofs.lemmas.Grind.{common_steps}
use Rattle.mql_names.proofs.Joined.{parts_are, statement_parts}
use Rattle.mql_names.proofs.items.statement_parts.Goals as goal

pub returns : goal.returns
returns c =
    let e : c.as_slice.result.now ≡ statement_parts c.args.s.now = grind (arith, common_steps) in
    e ∙ parts_are c.args.s.now
