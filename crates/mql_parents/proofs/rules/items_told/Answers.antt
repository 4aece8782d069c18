use Rattle.std.proofs.Common.{sym, ap, ◌∙◌, ◌++◌, [], ◌∷◌, take}
use Rattle.std.proofs.lemmas.List.{take_more}
use Rattle.mql_names.specs.Maps.{meaning}
use Rattle.mql_names.proofs.Faults.{each_told}
use Rattle.mql_parents.specs.Maps.{parent_at}
use Rattle.mql_parents.specs.Parents as spec
use Rattle.mql_parents.proofs.rules.items_told.Goals as goal

pub loop-item-preserved : goal.loop-item-preserved
loop-item-preserved c =
    let is = c.args.items.now in
    let e = take_more is c.loop-item.item-index c.item-item.result c.loop-item-test.true ∙ ap (λ x. take c.loop-item.item-index is ++ x ∷ []) (sym c.item-item.is) in
    rw e (c.sooner-told.ensures ∙ each_told (spec.at_item (meaning c.args.names.now) (parent_at c.args.parents.now) c.args.most) (take c.loop-item.item-index is) c.item-item.result c.loop-item.told c.item_told.result c.loop-item.invariant c.item_told.ensures)
