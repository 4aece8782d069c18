use Rattle.std.proofs.Common.{◌≡◌, ◌+◌, ℕ, List, [], ◌∷◌, ◌++◌, drop, arith, refl, sym, ap, ◌∙◌}
use Rattle.std.proofs.lemmas.Grind.{common_steps}
use Rattle.mql_meaning.specs.declared.types.VarType.{VarType}
use Rattle.mql_meaning.specs.declared.tree.Expression.{Expression}
use Rattle.mql_scope.specs.Contexts.{Context, behind}
use Rattle.mql_scope.specs.Places.{context_at}
use Rattle.mql_scope.specs.Names.{stands_at}
use Rattle.mql_starts.specs.declared.initialisers.Begun.{Begun}
use Rattle.mql_starts.specs.declared.initialisers.PartStep.{PartStep}
use Rattle.mql_starts.specs.Starts.{then_begun, behind_begun, stepped_all, part_at, begins, begins_list}
use Rattle.mql_starts.proofs.Beginnings.{value_parts, held, begins_none, begins_parts, list_more, stepped_more}
use Rattle.mql_starts.proofs.initialisers.+begins.Goals as goal

pub begins-returns-then-not-has_parts : goal.begins-returns-then-not-has_parts
begins-returns-then-not-has_parts g t c =
    let x = context_at g.P.ProgramFacts.program c.args.here.now in
    let e = stepped_all (stands_at c.args.stands) c.args.steps.now in
    let v = c.args.v.now in
    let parts : c.as_slice-values.result.now ≡ value_parts v = grind (arith, common_steps) in
    held _ _ _ (begins_none x c.args.p e c.args.t v _ c.as_slice-values.result.now _ (grind (arith, common_steps)) parts
    (sym c.if-not-is_braces.ensures) (sym c.if-not-has_parts.ensures) refl) c.refused.ensures

pub begins-returns : goal.begins-returns
begins-returns g t c =
    let x = context_at g.P.ProgramFacts.program c.args.here.now in
    let e = stepped_all (stands_at c.args.stands) c.args.steps.now in
    let v = c.args.v.now in
    let parts : c.as_slice-values.result.now ≡ value_parts v = grind (arith, common_steps) in
    held _ _ _ (begins_parts x c.args.p e c.args.t v _ _ c.as_slice-values.result.now c.in_ok-before.before c.in_ok-begun.begun _
    (grind (arith, common_steps)) (grind (arith, common_steps)) parts
    (sym c.if-not-is_braces.ensures) (sym c.if-not-has_parts.ensures) c.in_ok-before.ensures c.in_ok-begun.ensures refl) c.in_braces.ensures

pub begins_list-loop-v-preserved : goal.begins_list-loop-v-preserved
begins_list-loop-v-preserved g t c =
    let x = context_at g.P.ProgramFacts.program c.args.here.now in
    let e = stepped_all (stands_at c.args.stands) c.args.steps.now in
    let i = c.loop-v.v-index in
    let v = c.v-item.result in
    let b = c.loop-v.begun in
    let part = c.in-Some.part in
    let kept : c.as_slice.result.now ≡ b.kept = grind (arith, common_steps) in
    let steps : c.as_slice-in-Some.result.now ≡ c.args.steps.now ++ part.step ∷ [] = grind (arith, common_steps) in
    let there = c.in_ok-there.ensures ∙ ap (λ (ks : List VarType). behind ks [] 0 x) kept in
    let one = c.in_ok-one-in-Some.ensures
    ∙ ap (λ (d : Context). begins d c.args.q (stepped_all (stands_at c.args.stands) c.as_slice-in-Some.result.now) part.of v) there
    ∙ ap (λ (ss : List PartStep). begins (behind_begun b x) c.args.q (stepped_all (stands_at c.args.stands) ss) part.of v) steps
    ∙ ap (λ (y : Expression). begins (behind_begun b x) c.args.q y part.of v) (stepped_more (stands_at c.args.stands) c.args.steps.now part.step) in
    let at = c.in-Some.ensures ∙ ap (λ (n : ℕ). part_at x.program c.args.t n) c.loop-v.invariant.number in
    record {
      number = c.in_ok-k.ensures ∙ ap (λ (n : ℕ). n + 1) c.loop-v.invariant.number;
      left = ap (λ (y : Begun). then_begun y (begins_list (behind_begun y x) c.args.q e c.args.t (i + 1) (drop (i + 1) c.args.values.now)))
          c.in_ok-begun-in-Some.ensures
          ∙ list_more x c.args.q e c.args.t c.args.values.now i v b c.in_ok-one-in-Some.one part c.loop-v-test.true c.v-item.is at one
          ∙ c.loop-v.invariant.left;
    }
