use Rattle.std.proofs.Common.{sym, ap, ◌∙◌, ◌++◌, [], ◌∷◌, take}
use Rattle.std.proofs.lemmas.List.{take_more}
use Rattle.mql_check.proofs.Walks.{inputs_step, numbers_step}
use Rattle.mql_check.proofs.inputs.inputs_from.Goals as goal

pub loop-item-preserved : goal.loop-item-preserved
loop-item-preserved g c =
    let s = g.S.SourceFacts.given c.args.source.now in
    let p = g.P.ProgramFacts.program c.args.program.now in
    let xs = take c.loop-item.item-index c.args.items.now in
    let i = c.item-item.result in
    let e = take_more c.args.items.now c.loop-item.item-index i c.loop-item-test.true ∙ ap (λ y. xs ++ y ∷ []) (sym c.item-item.is) in
    rw e (record {
      made = inputs_step s p xs i c.loop-item.all c.in_ok-one.one _ c.loop-item.n c.loop-item.invariant.made c.loop-item.invariant.numbers c.in_ok-one.ensures c.in_ok-append.ensures.ok;
      numbers = numbers_step xs i _ _ _ c.loop-item.invariant.numbers c.variables_at-more.ensures c.in_ok-n.ensures;
    })
