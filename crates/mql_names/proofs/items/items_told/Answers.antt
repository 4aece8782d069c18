use Rattle.std.proofs.Common.{sym, ap, ◌∙◌, ◌++◌, [], ◌∷◌, take}
use Rattle.std.proofs.lemmas.List.{take_more}
use Rattle.mql_names.specs.Maps.{meaning}
use Rattle.mql_names.specs.Things.{item_things}
use Rattle.mql_names.proofs.Joined.{each_more}
use Rattle.mql_names.proofs.items.items_told.Goals as goal

pub loop-item-preserved : goal.loop-item-preserved
loop-item-preserved c =
    let e = take_more c.args.items.now c.loop-item.item-index c.item-item.result c.loop-item-test.true ∙ ap (λ x. take c.loop-item.item-index c.args.items.now ++ x ∷ []) (sym c.item-item.is) in
    rw e (c.sooner-told.ensures ∙ each_more (meaning c.args.names.now) (item_things (meaning c.args.names.now)) (take c.loop-item.item-index c.args.items.now) c.item-item.result c.loop-item.told c.in_ok-item_told.field-0 c.loop-item.invariant c.in_ok-item_told.ensures)
