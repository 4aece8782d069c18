use Rattle.std.proofs.Common.{sym, ◌∙◌}
use Rattle.mql_calls.proofs.Parts.{nothing_lent}
use Rattle.mql_calls.proofs.native_rules.lends_fixed.Goals as goal

pub returns : goal.returns
returns c =
    sym (nothing_lent c.loop-rest.qs.now c.loop-rest.rest.now c.in_default.len_below) ∙ c.loop-rest.invariant.1
