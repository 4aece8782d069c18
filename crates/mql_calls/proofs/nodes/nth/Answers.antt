use Rattle.std.proofs.Common.{sym, ap, ◌∙◌}
use Rattle.mql_calls.proofs.Parts.{flat, nth_part}
use Rattle.mql_calls.proofs.nodes.nth.Goals as goal

pub returns-in-None : goal.returns-in-None
returns-in-None c = ap flat c.in-None.ensures ∙ sym (nth_part c.args.n c.args.parts.now)

pub returns-in-Some : goal.returns-in-Some
returns-in-Some c = c.as_ref.ensures.value ∙ ap flat c.in-Some.ensures ∙ sym (nth_part c.args.n c.args.parts.now)
