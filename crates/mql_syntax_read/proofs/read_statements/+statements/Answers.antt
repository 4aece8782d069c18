use Rattle.std.proofs.Common.{Err, Some, None, refl, sym, ap, ◌∙◌, option_map}
use Rattle.mql_views.specs.Seen.{part_seen, seen, variables_seen}
use Rattle.mql_syntax.specs.Lists.{each}
use Rattle.mql_syntax.proofs.Each.{exit, nothing_on, shows_nothing, reads_as}
use Rattle.mql_syntax_read.specs.Seen.{pieces_seen, statement_seen}
use Rattle.mql_syntax_read.specs.Statements.{shape_of, stated, read_piece}
use Rattle.mql_syntax_read.proofs.Statements.{too_deep, from_shape, shaped, without_shape, with_shape, without_parts}
use Rattle.mql_syntax_read.proofs.read_statements.+statements.Goals as goal

pub statement-returns-in-None : goal.statement-returns-in-None
statement-returns-in-None t c =
    too_deep c.args.tokens.now c.args.classes.now c.args.depth c.args.inside (part_seen c.args.part) c.in-None.ensures

pub statement-returns-in_err-shape : goal.statement-returns-in_err-shape
statement-returns-in_err-shape t c =
    let place = c.place_of-place.result in
    let eq = shaped c.args.tokens.now c.args.classes.now c.args.depth c.in-Some.depth c.args.inside place (part_seen c.args.part) (seen c.as_slice.result.now) c.in-Some.ensures.0 c.in-Some.ensures.1 c.place_of-place.ensures (ap seen c.as_slice.ensures ∙ c.in_ok-parts.ensures) in
    exit c.from_residual-in_err-shape.result c.in_err-shape.field-0.0 _ c.from_residual-in_err-shape.ensures.1
    (reads_as (Err c.in_err-shape.field-0.0) _ _ eq
    (nothing_on (from_shape c.args.tokens.now c.args.classes.now c.in-Some.depth place) (without_shape c.args.tokens.now c.args.classes.now c.in-Some.depth place None refl) c.in_err-shape.field-0.0 _
    (shows_nothing statement_seen c.in_err-shape.field-0.0 _ c.in_err-shape.ensures)))

pub statement-returns-in_err-parts-2 : goal.statement-returns-in_err-parts-2
statement-returns-in_err-parts-2 t c =
    let place = c.place_of-place.result in
    let s = c.in_ok-shape.shape in
    let eq = shaped c.args.tokens.now c.args.classes.now c.args.depth c.in-Some.depth c.args.inside place (part_seen c.args.part) (seen c.as_slice.result.now) c.in-Some.ensures.0 c.in-Some.ensures.1 c.place_of-place.ensures (ap seen c.as_slice.ensures ∙ c.in_ok-parts.ensures) in
    let found = with_shape c.args.tokens.now c.args.classes.now c.in-Some.depth place (shape_of (part_seen c.args.part) (seen c.as_slice.result.now)) (statement_seen s) c.in_ok-shape.ensures in
    let list = ap (λ l. stated c.args.tokens.now c.args.classes.now c.in-Some.depth place s.what (option_map variables_seen s.locals) (seen s.values) (each (read_piece c.args.tokens.now c.args.classes.now c.in-Some.depth place) (pieces_seen l))) (sym c.as_slice-2.ensures) in
    exit c.from_residual-in_err-parts-2.result c.in_err-parts-2.field-0.0 _ c.from_residual-in_err-parts-2.ensures.1
    (reads_as (Err c.in_err-parts-2.field-0.0) _ _ (eq ∙ found ∙ list)
    (nothing_on (stated c.args.tokens.now c.args.classes.now c.in-Some.depth place s.what (option_map variables_seen s.locals) (seen s.values)) (without_parts c.args.tokens.now c.args.classes.now c.in-Some.depth place s.what (option_map variables_seen s.locals) (seen s.values)) c.in_err-parts-2.field-0.0 _ c.in_err-parts-2.ensures))

pub statement-returns : goal.statement-returns
statement-returns t c =
    let place = c.place_of-place.result in
    let s = c.in_ok-shape.shape in
    let eq = shaped c.args.tokens.now c.args.classes.now c.args.depth c.in-Some.depth c.args.inside place (part_seen c.args.part) (seen c.as_slice.result.now) c.in-Some.ensures.0 c.in-Some.ensures.1 c.place_of-place.ensures (ap seen c.as_slice.ensures ∙ c.in_ok-parts.ensures) in
    let found = with_shape c.args.tokens.now c.args.classes.now c.in-Some.depth place (shape_of (part_seen c.args.part) (seen c.as_slice.result.now)) (statement_seen s) c.in_ok-shape.ensures in
    let list = ap (λ l. stated c.args.tokens.now c.args.classes.now c.in-Some.depth place s.what (option_map variables_seen s.locals) (seen s.values) (each (read_piece c.args.tokens.now c.args.classes.now c.in-Some.depth place) (pieces_seen l))) (sym c.as_slice-2.ensures) in
    let parts = ap (stated c.args.tokens.now c.args.classes.now c.in-Some.depth place s.what (option_map variables_seen s.locals) (seen s.values)) c.in_ok-parts-2.ensures in
    let values = ap (λ l. stated c.args.tokens.now c.args.classes.now c.in-Some.depth place s.what (option_map variables_seen s.locals) (seen l) (Some c.in_ok-parts-2.parts)) (sym c.as_slice-3.ensures) in
    reads_as c.stated.result _ _ (eq ∙ found ∙ list ∙ parts ∙ values) c.stated.ensures
