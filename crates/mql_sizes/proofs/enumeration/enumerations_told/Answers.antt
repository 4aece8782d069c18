use Rattle.std.proofs.Common.{sym, ap, ◌∙◌, ◌++◌, [], ◌∷◌, take}
use Rattle.std.proofs.lemmas.List.{take_more}
use Rattle.mql_names.proofs.Faults.{each_told}
use Rattle.mql_sizes.specs.Members.{valueless}
use Rattle.mql_sizes.proofs.enumeration.enumerations_told.Goals as goal

pub loop-n-preserved : goal.loop-n-preserved
loop-n-preserved c =
    let e = take_more c.args.enumerations.now c.loop-n.n-index c.n-item.result c.loop-n-test.true ∙ ap (λ x. take c.loop-n.n-index c.args.enumerations.now ++ x ∷ []) (sym c.n-item.is) in
    rw e (c.sooner-told.ensures ∙ each_told valueless (take c.loop-n.n-index c.args.enumerations.now) c.n-item.result c.loop-n.told c.valueless.result c.loop-n.invariant c.valueless.ensures)
