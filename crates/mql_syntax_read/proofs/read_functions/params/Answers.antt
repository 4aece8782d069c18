use Rattle.std.proofs.Common.{◌+◌, map, drop, sym, ap, ◌∙◌}
use Rattle.mql_views.specs.Seen.{all}
use Rattle.mql_syntax.specs.Lists.{each}
use Rattle.mql_syntax.specs.Seen.{at_site}
use Rattle.mql_syntax_read.specs.Functions.{param}
use Rattle.mql_syntax.proofs.Each.{ahead, each_more, from_place}
use Rattle.mql_syntax_read.proofs.read_functions.params.Goals as goal

pub loop-piece-preserved : goal.loop-piece-preserved
loop-piece-preserved c =
    let pieces = c.args.pieces.now in
    let read = at_site param c.args.site in
    let next = from_place pieces c.loop-piece.piece-index c.piece-item.result c.loop-piece-test.true c.piece-item.is in
    let rest = map all (drop (c.loop-piece.piece-index + 1) pieces) in
    c.loop-piece.invariant
    ∙ ap (λ l. ahead c.loop-piece.found (each read (map all l))) next
    ∙ each_more read c.loop-piece.found (all c.piece-item.result) rest c.in_ok-param.field-0 c.in_ok-param.ensures
    ∙ ap (λ found. ahead found (each read rest)) (sym c.in_ok-push.ensures.ok)
