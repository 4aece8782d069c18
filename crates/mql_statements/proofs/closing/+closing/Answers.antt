use Rattle.std.proofs.Common.{rules, ◌≡◌, ◌≤◌, ◌&&◌, true, length, sym, ap, ◌∙◌, arith}
use Rattle.mql_statements.specs.Closing.{both, closes}
use Rattle.mql_statements.proofs.Closed.{both_of}
use Rattle.mql_statements.proofs.closing.+closing.Goals as goal

pub both_close-returns-then-closes : goal.both_close-returns-then-closes
both_close-returns-then-closes t c =
    let long : 2 ≤ length c.args.parts.now = search rules in
    let first : closes c.index-parts-0.result ≡ true = sym c.closes.ensures ∙ c.if-closes.true in
    c.closes-then-closes.ensures
    ∙ sym (both_of closes c.args.parts.now c.index-parts-0.result c.index-parts-n.result long c.index-parts-0.is c.index-parts-n.is
    ∙ ap (λ b. b && closes c.index-parts-n.result) first)
