use Rattle.std.proofs.Common.{sym, ap, ◌∙◌, ◌++◌, [], ◌∷◌, take}
use Rattle.std.proofs.lemmas.List.{take_more}
use Rattle.mql_check.proofs.Walks.{bodies_step, statics_step}
use Rattle.mql_check.proofs.bodies.told_bodies.Goals as goal

pub loop-item-preserved : goal.loop-item-preserved
loop-item-preserved g c =
    let p = g.P.ProgramFacts.program c.args.program.now in
    let xs = take c.loop-item.item-index c.args.items.now in
    let i = c.item-item.result in
    let e = take_more c.args.items.now c.loop-item.item-index i c.loop-item-test.true ∙ ap (λ y. xs ++ y ∷ []) (sym c.item-item.is) in
    rw e (record {
      told = bodies_step p c.args.first xs i c.loop-item.all c.in_ok-one.one c.in_ok-all.all c.loop-item.statics c.loop-item.invariant.told c.loop-item.invariant.numbers c.in_ok-one.ensures c.in_ok-all.ensures;
      numbers = statics_step c.args.first c.loop-item.all c.in_ok-one.one c.in_ok-all.all _ _ _ c.loop-item.invariant.numbers c.len-taken.ensures c.in_ok-statics.ensures c.in_ok-all.ensures;
    })
