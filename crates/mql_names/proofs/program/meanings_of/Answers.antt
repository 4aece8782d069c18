use Rattle.std.proofs.Common.{sym, ap, subst, ◌∙◌, ◌++◌, [], ◌∷◌, take}
use Rattle.std.specs.List.{flat_map}
use Rattle.std.proofs.lemmas.List.{take_more}
use Rattle.mql_names.specs.Maps.{Means}
use Rattle.mql_names.specs.Meanings.{item_meanings}
use Rattle.mql_names.proofs.MeantMore.{nothing_means, flat_more}
use Rattle.mql_names.proofs.program.meanings_of.Goals as goal

pub loop-item-init : goal.loop-item-init
loop-item-init c = nothing_means c.new-names.result c.new-names.ensures.empty

pub loop-item-preserved : goal.loop-item-preserved
loop-item-preserved c =
    let xs = take c.loop-item.item-index c.args.items.now in
    let e = take_more c.args.items.now c.loop-item.item-index c.item-item.result c.loop-item-test.true ∙ ap (λ x. take c.loop-item.item-index c.args.items.now ++ x ∷ []) (sym c.item-item.is) in
    subst (Means c.in_ok-names.names) (sym (flat_more item_meanings xs c.item-item.result) ∙ sym (ap (flat_map item_meanings) e))
    (c.in_ok-names.ensures (flat_map item_meanings xs) c.loop-item.invariant)
