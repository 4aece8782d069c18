use Rattle.std.proofs.Common.{sym, ap, ◌∙◌, ◌++◌, [], ◌∷◌, take}
use Rattle.std.proofs.lemmas.List.{take_more}
use Rattle.mql_names.proofs.Faults.{each_told}
use Rattle.mql_nesting.specs.Nesting as spec
use Rattle.mql_nesting.proofs.nesting.all_nesting.Goals as goal

pub loop-s-preserved : goal.loop-s-preserved
loop-s-preserved c =
    let ss = c.args.structures.now in
    let e = take_more ss c.loop-s.s-index c.s-item.result c.loop-s-test.true ∙ ap (λ x. take c.loop-s.s-index ss ++ x ∷ []) (sym c.s-item.is) in
    rw e (c.sooner-told.ensures ∙ each_told (spec.nesting ss) (take c.loop-s.s-index ss) c.s-item.result c.loop-s.told c.in_ok-one.one c.loop-s.invariant c.in_ok-one.ensures)
