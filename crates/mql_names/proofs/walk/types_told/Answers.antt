use Rattle.std.proofs.Common.{sym, ap, ◌∙◌, ◌++◌, [], ◌∷◌, take}
use Rattle.std.proofs.lemmas.List.{take_more}
use Rattle.mql_names.specs.Maps.{meaning}
use Rattle.mql_names.specs.Things.{type_things}
use Rattle.mql_names.proofs.Joined.{each_more}
use Rattle.mql_names.proofs.walk.types_told.Goals as goal

pub loop-of-preserved : goal.loop-of-preserved
loop-of-preserved c =
    let e = take_more c.args.types.now c.loop-of.of-index c.of-item.result c.loop-of-test.true ∙ ap (λ x. take c.loop-of.of-index c.args.types.now ++ x ∷ []) (sym c.of-item.is) in
    rw e (c.sooner-told.ensures ∙ each_more (meaning c.args.names.now) type_things (take c.loop-of.of-index c.args.types.now) c.of-item.result c.loop-of.told c.type_told.result c.loop-of.invariant c.type_told.ensures)
