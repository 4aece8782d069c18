use Rattle.std.proofs.Common.{sym, ap, ◌∙◌, ◌++◌, [], ◌∷◌, take}
use Rattle.std.proofs.lemmas.List.{take_more}
use Rattle.mql_names.specs.Maps.{meaning}
use Rattle.mql_names.proofs.Joined.{params_more}
use Rattle.mql_names.proofs.items.params_told.Goals as goal

pub loop-param-preserved : goal.loop-param-preserved
loop-param-preserved c =
    let e = take_more c.args.params.now c.loop-param.param-index c.param-item.result c.loop-param-test.true ∙ ap (λ x. take c.loop-param.param-index c.args.params.now ++ x ∷ []) (sym c.param-item.is) in
    λ locals. rw e (c.sooner-told.ensures ∙ params_more (meaning c.args.names.now) (take c.loop-param.param-index c.args.params.now) c.param-item.result c.loop-param.told c.whole_variable_told.result c.loop-param.invariant c.whole_variable_told.ensures locals)
