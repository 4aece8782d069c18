use Rattle.std.proofs.Common.{Err, None, refl, sym, ap, ◌∙◌, option_map}
use Rattle.mql_views.specs.Cuts.{on}
use Rattle.mql_views.specs.Seen.{part_seen, seen}
use Rattle.mql_syntax.specs.Lists.{each}
use Rattle.mql_syntax.specs.Seen.{types_seen, shape_seen}
use Rattle.mql_syntax.specs.Types.{type_use}
use Rattle.mql_syntax.specs.Values.{shape, value}
use Rattle.mql_syntax.specs.declared.value.Value.TheVariants as made
use Rattle.mql_syntax.proofs.Each.{exit, nothing_on, shows_nothing, reads_as}
use Rattle.mql_syntax.proofs.Values.{too_deep, from_shape, shaped, without_shape, with_shape}
use Rattle.mql_syntax.proofs.read_values.+values.Goals as goal

pub value-returns-in-None : goal.value-returns-in-None
value-returns-in-None t c =
    too_deep c.args.tokens.now c.args.classes.now c.args.depth c.args.inside (part_seen c.args.part) c.in-None.ensures

pub value-returns-in_err-shape : goal.value-returns-in_err-shape
value-returns-in_err-shape t c =
    let place = c.place_of-place.result in
    let eq = shaped c.args.tokens.now c.args.classes.now c.args.depth c.in-Some.depth c.args.inside place (part_seen c.args.part) (seen c.as_slice.result.now) c.in-Some.ensures.0 c.in-Some.ensures.1 c.place_of-place.ensures (ap seen c.as_slice.ensures ∙ c.in_ok-parts.ensures) in
    exit c.from_residual-in_err-shape.result c.in_err-shape.field-0.0 _ c.from_residual-in_err-shape.ensures.1
    (reads_as (Err c.in_err-shape.field-0.0) _ _ eq
    (nothing_on (from_shape c.args.tokens.now c.args.classes.now c.in-Some.depth place) (without_shape c.args.tokens.now c.args.classes.now c.in-Some.depth place None refl) c.in_err-shape.field-0.0 _
    (shows_nothing shape_seen c.in_err-shape.field-0.0 _ c.in_err-shape.ensures)))

pub value-returns-in_err-types : goal.value-returns-in_err-types
value-returns-in_err-types t c =
    let place = c.place_of-place.result in
    let s = c.in_ok-shape.shape in
    let eq = shaped c.args.tokens.now c.args.classes.now c.args.depth c.in-Some.depth c.args.inside place (part_seen c.args.part) (seen c.as_slice.result.now) c.in-Some.ensures.0 c.in-Some.ensures.1 c.place_of-place.ensures (ap seen c.as_slice.ensures ∙ c.in_ok-parts.ensures) in
    let found = with_shape c.args.tokens.now c.args.classes.now c.in-Some.depth place (shape c.args.tokens.now (part_seen c.args.part) (seen c.as_slice.result.now)) (shape_seen s) c.in_ok-shape.ensures in
    let list = ap (λ l. on (each (type_use c.args.tokens.now c.args.classes.now c.in-Some.depth place) (types_seen l)) (λ ts. option_map (made.Node place s.what ts) (each (value c.args.tokens.now c.args.classes.now c.in-Some.depth place) (seen s.parts)))) (sym c.as_slice-2.ensures) in
    exit c.from_residual-in_err-types.result c.in_err-types.field-0.0 _ c.from_residual-in_err-types.ensures.1
    (reads_as (Err c.in_err-types.field-0.0) _ _ (eq ∙ found ∙ list)
    (nothing_on (λ o. on o (λ ts. option_map (made.Node place s.what ts) (each (value c.args.tokens.now c.args.classes.now c.in-Some.depth place) (seen s.parts)))) refl c.in_err-types.field-0.0 _ c.in_err-types.ensures))

pub value-returns-in_err-parts-2 : goal.value-returns-in_err-parts-2
value-returns-in_err-parts-2 t c =
    let place = c.place_of-place.result in
    let s = c.in_ok-shape.shape in
    let eq = shaped c.args.tokens.now c.args.classes.now c.args.depth c.in-Some.depth c.args.inside place (part_seen c.args.part) (seen c.as_slice.result.now) c.in-Some.ensures.0 c.in-Some.ensures.1 c.place_of-place.ensures (ap seen c.as_slice.ensures ∙ c.in_ok-parts.ensures) in
    let found = with_shape c.args.tokens.now c.args.classes.now c.in-Some.depth place (shape c.args.tokens.now (part_seen c.args.part) (seen c.as_slice.result.now)) (shape_seen s) c.in_ok-shape.ensures in
    let list = ap (λ l. on (each (type_use c.args.tokens.now c.args.classes.now c.in-Some.depth place) (types_seen l)) (λ ts. option_map (made.Node place s.what ts) (each (value c.args.tokens.now c.args.classes.now c.in-Some.depth place) (seen s.parts)))) (sym c.as_slice-2.ensures) in
    let typed = ap (λ o. on o (λ ts. option_map (made.Node place s.what ts) (each (value c.args.tokens.now c.args.classes.now c.in-Some.depth place) (seen s.parts)))) c.in_ok-types.ensures in
    let parts = ap (λ l. option_map (made.Node place s.what c.in_ok-types.types) (each (value c.args.tokens.now c.args.classes.now c.in-Some.depth place) (seen l))) (sym c.as_slice-3.ensures) in
    exit c.from_residual-in_err-parts-2.result c.in_err-parts-2.field-0.0 _ c.from_residual-in_err-parts-2.ensures.1
    (reads_as (Err c.in_err-parts-2.field-0.0) _ _ (eq ∙ found ∙ list ∙ typed ∙ parts)
    (nothing_on (option_map (made.Node place s.what c.in_ok-types.types)) refl c.in_err-parts-2.field-0.0 _ c.in_err-parts-2.ensures))

pub value-returns : goal.value-returns
value-returns t c =
    let place = c.place_of-place.result in
    let s = c.in_ok-shape.shape in
    let eq = shaped c.args.tokens.now c.args.classes.now c.args.depth c.in-Some.depth c.args.inside place (part_seen c.args.part) (seen c.as_slice.result.now) c.in-Some.ensures.0 c.in-Some.ensures.1 c.place_of-place.ensures (ap seen c.as_slice.ensures ∙ c.in_ok-parts.ensures) in
    let found = with_shape c.args.tokens.now c.args.classes.now c.in-Some.depth place (shape c.args.tokens.now (part_seen c.args.part) (seen c.as_slice.result.now)) (shape_seen s) c.in_ok-shape.ensures in
    let list = ap (λ l. on (each (type_use c.args.tokens.now c.args.classes.now c.in-Some.depth place) (types_seen l)) (λ ts. option_map (made.Node place s.what ts) (each (value c.args.tokens.now c.args.classes.now c.in-Some.depth place) (seen s.parts)))) (sym c.as_slice-2.ensures) in
    let typed = ap (λ o. on o (λ ts. option_map (made.Node place s.what ts) (each (value c.args.tokens.now c.args.classes.now c.in-Some.depth place) (seen s.parts)))) c.in_ok-types.ensures in
    let parts = ap (λ l. option_map (made.Node place s.what c.in_ok-types.types) (each (value c.args.tokens.now c.args.classes.now c.in-Some.depth place) (seen l))) (sym c.as_slice-3.ensures) in
    eq ∙ found ∙ list ∙ typed ∙ parts ∙ ap (option_map (made.Node place s.what c.in_ok-types.types)) c.in_ok-parts-2.ensures
