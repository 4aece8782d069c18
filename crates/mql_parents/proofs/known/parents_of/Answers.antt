use Rattle.std.proofs.Common.{sym, ap, subst, ◌∙◌, ◌++◌, [], ◌∷◌, take}
use Rattle.std.specs.List.{flat_map}
use Rattle.std.proofs.lemmas.List.{take_more}
use Rattle.mql_names.proofs.MeantMore.{flat_more}
use Rattle.mql_parents.specs.Parents.{item_derived}
use Rattle.mql_parents.specs.Maps.{Holds}
use Rattle.mql_parents.proofs.Held.{nothing_held}
use Rattle.mql_parents.proofs.known.parents_of.Goals as goal

pub loop-item-init : goal.loop-item-init
loop-item-init c = nothing_held c.new-parents.result c.new-parents.ensures.empty

pub loop-item-preserved : goal.loop-item-preserved
loop-item-preserved c =
    let xs = take c.loop-item.item-index c.args.items.now in
    let e = take_more c.args.items.now c.loop-item.item-index c.item-item.result c.loop-item-test.true ∙ ap (λ x. take c.loop-item.item-index c.args.items.now ++ x ∷ []) (sym c.item-item.is) in
    subst (Holds c.in_ok-parents.parents) (sym (flat_more item_derived xs c.item-item.result) ∙ sym (ap (flat_map item_derived) e))
    (c.in_ok-parents.ensures (flat_map item_derived xs) c.loop-item.invariant)
