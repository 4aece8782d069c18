use Rattle.std.proofs.Common.{sym, ap, ◌∙◌, ◌++◌, [], ◌∷◌, take}
use Rattle.std.proofs.lemmas.List.{take_more}
use Rattle.mql_names.specs.Maps.{meaning}
use Rattle.mql_names.specs.Things.{value_things}
use Rattle.mql_names.proofs.Joined.{each_more}
use Rattle.mql_names.proofs.walk.+values.Goals as goal

pub values_told-loop-v-preserved : goal.values_told-loop-v-preserved
values_told-loop-v-preserved t c =
    let e = take_more c.args.values.now c.loop-v.v-index c.v-item.result c.loop-v-test.true ∙ ap (λ x. take c.loop-v.v-index c.args.values.now ++ x ∷ []) (sym c.v-item.is) in
    rw e (c.sooner-told.ensures ∙ each_more (meaning c.args.names.now) value_things (take c.loop-v.v-index c.args.values.now) c.v-item.result c.loop-v.told c.value_told.result c.loop-v.invariant c.value_told.ensures)
