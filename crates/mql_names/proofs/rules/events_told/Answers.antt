use Rattle.std.proofs.Common.{sym, ap, ◌∙◌, ◌++◌, [], ◌∷◌, take}
use Rattle.std.proofs.lemmas.List.{take_more}
use Rattle.mql_names.specs.Maps.{meaning}
use Rattle.mql_names.specs.Rules.{event_breaks}
use Rattle.mql_names.proofs.Faults.{each_told}
use Rattle.mql_names.proofs.rules.events_told.Goals as goal

pub loop-item-preserved : goal.loop-item-preserved
loop-item-preserved c =
    let e = take_more c.args.items.now c.loop-item.item-index c.item-item.result c.loop-item-test.true ∙ ap (λ x. take c.loop-item.item-index c.args.items.now ++ x ∷ []) (sym c.item-item.is) in
    rw e (c.sooner-told.ensures ∙ each_told (event_breaks (meaning c.args.names.now)) (take c.loop-item.item-index c.args.items.now) c.item-item.result c.loop-item.told c.event_told.result c.loop-item.invariant c.event_told.ensures)
