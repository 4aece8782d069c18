use Rattle.std.proofs.Common.{sym, ap, ◌∙◌, ◌++◌, [], ◌∷◌, take}
use Rattle.std.proofs.lemmas.List.{take_more}
use Rattle.mql_names.specs.Things.{own_scope}
use Rattle.mql_names.proofs.Joined.{each_more}
use Rattle.mql_names.proofs.walk.own_scopes_told.Goals as goal

pub loop-s-preserved : goal.loop-s-preserved
loop-s-preserved c =
    let e = take_more c.args.parts.now c.loop-s.s-index c.s-item.result c.loop-s-test.true ∙ ap (λ x. take c.loop-s.s-index c.args.parts.now ++ x ∷ []) (sym c.s-item.is) in
    λ names. rw e (c.sooner-told.ensures ∙ each_more names own_scope (take c.loop-s.s-index c.args.parts.now) c.s-item.result c.loop-s.told c.in_ok-own_scope_told.field-0 (c.loop-s.invariant names) (c.in_ok-own_scope_told.ensures names))
