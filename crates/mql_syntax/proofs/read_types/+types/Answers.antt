use Rattle.std.proofs.Common.{Err, None, refl, sym, ap, ◌∙◌, option_map}
use Rattle.mql_views.specs.Seen.{part_seen, seen, type_seen}
use Rattle.mql_syntax.specs.Lists.{each}
use Rattle.mql_syntax.specs.Seen.{types_seen, named_seen}
use Rattle.mql_syntax.specs.Types.{named, type_use}
use Rattle.mql_syntax.specs.declared.value.TypeUse.TheVariants as made
use Rattle.mql_syntax.proofs.Each.{exit, nothing_on, shows_nothing, reads_as}
use Rattle.mql_syntax.proofs.Types.{too_deep, from_name, named_as, without_name, with_name}
use Rattle.mql_syntax.proofs.read_types.+types.Goals as goal

pub type_use-returns-in-None : goal.type_use-returns-in-None
type_use-returns-in-None t c =
    too_deep c.args.tokens.now c.args.classes.now c.args.depth c.args.inside (type_seen c.args.typed) c.in-None.ensures

pub type_use-returns-in_err-named : goal.type_use-returns-in_err-named
type_use-returns-in_err-named t c =
    let place = c.place_of-place.result in
    let eq = named_as c.args.tokens.now c.args.classes.now c.args.depth c.in-Some.depth c.args.inside place (type_seen c.args.typed) (seen c.as_slice.result.now) c.in-Some.ensures.0 c.in-Some.ensures.1 c.place_of-place.ensures (ap seen c.as_slice.ensures ∙ c.in_ok-parts.ensures) in
    exit c.from_residual-in_err-named.result c.in_err-named.field-0.0 _ c.from_residual-in_err-named.ensures.1
    (reads_as (Err c.in_err-named.field-0.0) _ _ eq
    (nothing_on (from_name c.args.tokens.now c.args.classes.now c.in-Some.depth place c.args.typed.pointer) (without_name c.args.tokens.now c.args.classes.now c.in-Some.depth place c.args.typed.pointer None refl) c.in_err-named.field-0.0 _
    (shows_nothing named_seen c.in_err-named.field-0.0 _ c.in_err-named.ensures)))

pub type_use-returns-in_err-args : goal.type_use-returns-in_err-args
type_use-returns-in_err-args t c =
    let place = c.place_of-place.result in
    let eq = named_as c.args.tokens.now c.args.classes.now c.args.depth c.in-Some.depth c.args.inside place (type_seen c.args.typed) (seen c.as_slice.result.now) c.in-Some.ensures.0 c.in-Some.ensures.1 c.place_of-place.ensures (ap seen c.as_slice.ensures ∙ c.in_ok-parts.ensures) in
    let found = with_name c.args.tokens.now c.args.classes.now c.in-Some.depth place c.args.typed.pointer (named c.args.tokens.now (part_seen c.args.typed.name) (seen c.as_slice.result.now)) (named_seen c.in_ok-named.named) c.in_ok-named.ensures in
    let list = ap (λ l. option_map (made.Named place c.in_ok-named.named.name c.args.typed.pointer) (each (type_use c.args.tokens.now c.args.classes.now c.in-Some.depth place) (types_seen l))) (sym c.as_slice-2.ensures) in
    exit c.from_residual-in_err-args.result c.in_err-args.field-0.0 _ c.from_residual-in_err-args.ensures.1
    (reads_as (Err c.in_err-args.field-0.0) _ _ (eq ∙ found ∙ list)
    (nothing_on (option_map (made.Named place c.in_ok-named.named.name c.args.typed.pointer)) refl c.in_err-args.field-0.0 _ c.in_err-args.ensures))

pub type_use-returns : goal.type_use-returns
type_use-returns t c =
    let place = c.place_of-place.result in
    let eq = named_as c.args.tokens.now c.args.classes.now c.args.depth c.in-Some.depth c.args.inside place (type_seen c.args.typed) (seen c.as_slice.result.now) c.in-Some.ensures.0 c.in-Some.ensures.1 c.place_of-place.ensures (ap seen c.as_slice.ensures ∙ c.in_ok-parts.ensures) in
    let found = with_name c.args.tokens.now c.args.classes.now c.in-Some.depth place c.args.typed.pointer (named c.args.tokens.now (part_seen c.args.typed.name) (seen c.as_slice.result.now)) (named_seen c.in_ok-named.named) c.in_ok-named.ensures in
    let list = ap (λ l. option_map (made.Named place c.in_ok-named.named.name c.args.typed.pointer) (each (type_use c.args.tokens.now c.args.classes.now c.in-Some.depth place) (types_seen l))) (sym c.as_slice-2.ensures) in
    eq ∙ found ∙ list ∙ ap (option_map (made.Named place c.in_ok-named.named.name c.args.typed.pointer)) c.in_ok-args.ensures
