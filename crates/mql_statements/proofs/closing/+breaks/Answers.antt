use Rattle.std.proofs.Common.{◌≡◌, ◌||◌, map, take, sym, ap, ◌∙◌}
use Rattle.mql_statements.specs.Closing.{some, has_break}
use Rattle.mql_statements.proofs.Closed.{some_step}
use Rattle.mql_statements.proofs.closing.+breaks.Goals as goal

pub some_break-loop-s-preserved : goal.some_break-loop-s-preserved
some_break-loop-s-preserved t c =
    c.either-found.ensures ∙ ap (λ b. b || c.has_break.result) c.loop-s.invariant
    ∙ ap (λ b. some (map has_break (take c.loop-s.s-index c.args.parts.now)) || b) c.has_break.ensures
    ∙ sym (some_step has_break c.args.parts.now c.loop-s.s-index c.s-item.result c.loop-s-test.true c.s-item.is)
