use Rattle.std.proofs.Common.{sym, ap, ◌∙◌, ◌++◌, [], ◌∷◌, take}
use Rattle.std.proofs.lemmas.List.{take_more}
use Rattle.mql_names.specs.Maps.{meaning}
use Rattle.mql_names.specs.Things.{enumerator_things}
use Rattle.mql_names.proofs.Joined.{each_more}
use Rattle.mql_names.proofs.items.enumerators_told.Goals as goal

pub loop-enumerator-preserved : goal.loop-enumerator-preserved
loop-enumerator-preserved c =
    let e = take_more c.args.enumerators.now c.loop-enumerator.enumerator-index c.enumerator-item.result c.loop-enumerator-test.true ∙ ap (λ x. take c.loop-enumerator.enumerator-index c.args.enumerators.now ++ x ∷ []) (sym c.enumerator-item.is) in
    rw e (c.sooner-told.ensures ∙ each_more (meaning c.args.names.now) enumerator_things (take c.loop-enumerator.enumerator-index c.args.enumerators.now) c.enumerator-item.result c.loop-enumerator.told c.enumerator_told.result c.loop-enumerator.invariant c.enumerator_told.ensures)
