use Rattle.std.proofs.Common.{◌∙◌, sym}
use Rattle.mql_nesting.proofs.Turns.{last_turn}
use Rattle.mql_nesting.proofs.nesting.within.Goals as goal

pub returns-then-len-before : goal.returns-then-len-before
returns-then-len-before c =
    last_turn c.args.structures.now c.loop-left.left c.loop-left.found c.in_ok-found.found c.in_ok-found.ensures (sym c.len.ensures ∙ c.if-len-before.true ∙ c.len-before.ensures)
    ∙ c.loop-left.invariant
