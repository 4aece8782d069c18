use Rattle.std.proofs.Common.{sym, ap, ◌∙◌, ◌++◌, [], ◌∷◌, take}
use Rattle.std.proofs.lemmas.List.{take_more}
use Rattle.mql_check.proofs.Walks.{begins_step, locals_step, numbers_step}
use Rattle.mql_check.proofs.globals.globals_begin.Goals as goal

pub loop-item-preserved : goal.loop-item-preserved
loop-item-preserved g c =
    let p = g.P.ProgramFacts.program c.args.program.now in
    let xs = take c.loop-item.item-index c.args.items.now in
    let i = c.item-item.result in
    let e = take_more c.args.items.now c.loop-item.item-index i c.loop-item-test.true ∙ ap (λ y. xs ++ y ∷ []) (sym c.item-item.is) in
    rw e (record {
      begun = begins_step p xs i c.loop-item.all c.in_ok-one.one c.in_ok-all.all c.loop-item.next c.loop-item.n c.loop-item.invariant.begun c.loop-item.invariant.locals c.loop-item.invariant.numbers c.in_ok-one.ensures c.in_ok-all.ensures;
      locals = locals_step c.loop-item.all c.in_ok-one.one c.in_ok-all.all _ _ _ c.loop-item.invariant.locals c.len-taken.ensures c.in_ok-next.ensures c.in_ok-all.ensures;
      numbers = numbers_step xs i _ _ _ c.loop-item.invariant.numbers c.variables_at-more.ensures c.in_ok-n.ensures;
    })
