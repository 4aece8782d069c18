use Rattle.std.proofs.Common.{◌≡◌, List, [], ◌∷◌, ◌++◌, take, IfOk, arith, sym, ap, subst, ◌∙◌}
use Rattle.std.proofs.lemmas.List.{take_more}
use Rattle.std.proofs.lemmas.Grind.{common_steps}
use Rattle.mql_scope.specs.Places.{context_at}
use Rattle.mql_expressions.specs.declared.findings.Found.{Found}
use Rattle.mql_expressions.specs.Values.{broken_in, used_in}
use Rattle.mql_starts.specs.Starts.{loose}
use Rattle.mql_starts.proofs.Beginnings.{value_parts, loose_braces, broken_more, used_more}
use Rattle.mql_starts.proofs.initialisers.+loose.Goals as goal

pub with_all_loose-loop-v-preserved : goal.with_all_loose-loop-v-preserved
with_all_loose-loop-v-preserved g t c =
    let x = context_at g.P.ProgramFacts.program c.args.here.now in
    let vs = take c.loop-v.v-index c.args.values.now in
    let v = c.v-item.result in
    let e = take_more c.args.values.now c.loop-v.v-index v c.loop-v-test.true ∙ ap (λ y. vs ++ y ∷ []) (sym c.v-item.is) in
    rw e (record {
      broken = c.in_ok-judged.ensures.broken ∙ ap (λ bs. bs ++ broken_in (loose x v)) c.loop-v.invariant.broken
          ∙ broken_more x c.args.before.broken vs v;
      used = c.in_ok-judged.ensures.used ∙ ap (λ ns. ns ++ used_in (loose x v)) c.loop-v.invariant.used
          ∙ used_more x c.args.before.used vs v;
    })

pub with_loose-returns-then-is_braces-clause-broken : goal.with_loose-returns-then-is_braces-clause-broken
with_loose-returns-then-is_braces-clause-broken g t c =
    let x = context_at g.P.ProgramFacts.program c.args.here.now in
    let v = c.args.v.now in
    let parts : c.as_slice.result.now ≡ value_parts v = grind (arith, common_steps) in
    subst (λ (fs : List Found). IfOk c.with_all_loose.result (λ r. r.broken ≡ c.args.before.broken ++ broken_in fs))
    (loose_braces x v _ c.as_slice.result.now (grind (arith, common_steps)) parts (sym c.if-is_braces.ensures)) c.with_all_loose.ensures.broken

pub with_loose-returns-then-is_braces-clause-used : goal.with_loose-returns-then-is_braces-clause-used
with_loose-returns-then-is_braces-clause-used g t c =
    let x = context_at g.P.ProgramFacts.program c.args.here.now in
    let v = c.args.v.now in
    let parts : c.as_slice.result.now ≡ value_parts v = grind (arith, common_steps) in
    subst (λ (fs : List Found). IfOk c.with_all_loose.result (λ r. r.used ≡ c.args.before.used ++ used_in fs))
    (loose_braces x v _ c.as_slice.result.now (grind (arith, common_steps)) parts (sym c.if-is_braces.ensures)) c.with_all_loose.ensures.used
