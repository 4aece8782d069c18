use Rattle.std.proofs.Common.{sym, ap, ◌∙◌, ◌++◌, [], ◌∷◌, take}
use Rattle.std.proofs.lemmas.List.{take_more}
use Rattle.stack_emission.proofs.FunctionEmits.{one_more, all_of}
use Rattle.stack_emission.proofs.functions.all_functions.Goals as goal

pub loop-f-preserved : goal.loop-f-preserved
loop-f-preserved c =
    let e = take_more c.args.functions.now c.loop-f.f-index c.f-item.result c.loop-f-test.true ∙ ap (λ x. take c.loop-f.f-index c.args.functions.now ++ x ∷ []) (sym c.f-item.is) in
    rw e (one_more _ c.f-item.result c.loop-f.written c.in_ok-written.written c.loop-f.invariant c.in_ok-written.ensures)

pub returns : goal.returns
returns c = all_of c.args.functions.now c.loop-f.f-index c.loop-f.written c.loop-f-test.false c.loop-f.invariant
