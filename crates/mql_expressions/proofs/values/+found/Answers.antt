use Rattle.std.proofs.Common.{◌≡◌, Bool, true, false, arith, refl, sym, ap, ◌∙◌, ◌++◌, [], ◌∷◌, take, option_map}
use Rattle.std.proofs.lemmas.List.{take_more}
use Rattle.std.proofs.lemmas.Grind.{common_steps}
use Rattle.mql_scope.specs.Places.{context_at}
use Rattle.mql_expressions.specs.Values.{found, found_all, founds_of, all_behind}
use Rattle.mql_expressions.proofs.Walk.{value_place, value_what, value_types, value_parts, whole, context_step, founds_step}
use Rattle.mql_expressions.proofs.values.+found.Goals as goal

pub found_all-loop-v-preserved : goal.found_all-loop-v-preserved
found_all-loop-v-preserved g t c =
    let x = context_at g.P.ProgramFacts.program c.args.here.now in
    let at = context_at g.P.ProgramFacts.program c.loop-v.at in
    let vs = take c.loop-v.v-index c.args.values.now in
    let e = take_more c.args.values.now c.loop-v.v-index c.v-item.result c.loop-v-test.true ∙ ap (λ y. vs ++ y ∷ []) (sym c.v-item.is) in
    rw e (record {
      context = context_step x vs c.v-item.result at _ c.in_ok-f.f c.loop-v.invariant.context c.in_ok-f.ensures c.in_ok-at.ensures;
      found = founds_step x vs c.v-item.result at c.in_ok-f.f c.loop-v.all c.in_ok-all.all c.loop-v.invariant.context c.in_ok-f.ensures c.loop-v.invariant.found c.in_ok-all.ensures;
    })

pub found_in-returns-in_ok-all-in-None : goal.found_in-returns-in_ok-all-in-None
found_in-returns-in_ok-all-in-None g t c =
    let x = context_at g.P.ProgramFacts.program c.args.here.now in
    let v = c.args.v.now in
    let e3 : c.as_slice-written.result.now ≡ value_types v = grind (arith, common_steps) in
    let e4 : c.as_slice-inside.result.now ≡ value_parts v = grind (arith, common_steps) in
    let named = option_map (λ y. y.now) c.called_in-called.result in
    whole x v _ _ c.as_slice-written.result.now c.as_slice-inside.result.now
    named false c.in_ok-all-in-None.all c.found_at.result (grind (arith, common_steps)) (grind (arith, common_steps)) e3 e4 c.called_in-called.ensures
    (grind (arith, common_steps)) c.in_ok-all-in-None.ensures c.found_at.ensures

pub found_in-returns-in_ok-others-in-Some : goal.found_in-returns-in_ok-others-in-Some
found_in-returns-in_ok-others-in-Some g t c =
    let x = context_at g.P.ProgramFacts.program c.args.here.now in
    let v = c.args.v.now in
    let e3 : c.as_slice-written.result.now ≡ value_types v = grind (arith, common_steps) in
    let e4 : c.as_slice-inside.result.now ≡ value_parts v = grind (arith, common_steps) in
    let named = option_map (λ y. y.now) c.called_in-called.result in
    whole x v _ _ c.as_slice-written.result.now c.as_slice-inside.result.now
    named true c.in_ok-others-in-Some.others c.found_at-in-Some.result (grind (arith, common_steps)) (grind (arith, common_steps)) e3 e4 c.called_in-called.ensures
    (grind (arith, common_steps)) c.in_ok-others-in-Some.ensures c.found_at-in-Some.ensures
