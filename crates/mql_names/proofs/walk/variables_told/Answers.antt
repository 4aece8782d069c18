use Rattle.std.proofs.Common.{sym, ap, ◌∙◌, ◌++◌, [], ◌∷◌, take}
use Rattle.std.proofs.lemmas.List.{take_more}
use Rattle.mql_names.specs.Maps.{meaning}
use Rattle.mql_names.proofs.Joined.{variables_more}
use Rattle.mql_names.proofs.walk.variables_told.Goals as goal

pub loop-v-preserved : goal.loop-v-preserved
loop-v-preserved c =
    let e = take_more c.args.variables.now c.loop-v.v-index c.v-item.result c.loop-v-test.true ∙ ap (λ x. take c.loop-v.v-index c.args.variables.now ++ x ∷ []) (sym c.v-item.is) in
    λ locals. rw e (c.sooner-told.ensures ∙ variables_more (meaning c.args.names.now) (take c.loop-v.v-index c.args.variables.now) c.v-item.result c.loop-v.told c.whole_variable_told.result c.loop-v.invariant c.whole_variable_told.ensures locals)
