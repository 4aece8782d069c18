use Rattle.std.proofs.Common.{sym, ap, ◌∙◌, ◌++◌, [], ◌∷◌, take}
use Rattle.std.proofs.lemmas.List.{take_more}
use Rattle.mql_names.specs.Maps.{meaning}
use Rattle.mql_names.specs.Things.{dimension_things}
use Rattle.mql_names.proofs.Joined.{each_more}
use Rattle.mql_names.proofs.walk.dimensions_told.Goals as goal

pub loop-dimension-preserved : goal.loop-dimension-preserved
loop-dimension-preserved c =
    let e = take_more c.args.dimensions.now c.loop-dimension.dimension-index c.dimension-item.result c.loop-dimension-test.true ∙ ap (λ x. take c.loop-dimension.dimension-index c.args.dimensions.now ++ x ∷ []) (sym c.dimension-item.is) in
    rw e (c.sooner-told.ensures ∙ each_more (meaning c.args.names.now) dimension_things (take c.loop-dimension.dimension-index c.args.dimensions.now) c.dimension-item.result c.loop-dimension.told c.dimension_told.result c.loop-dimension.invariant c.dimension_told.ensures)
