use Rattle.std.proofs.Common.{◌≡◌, ℕ, Bool, true, false, arith, refl, sym, ap, ◌∙◌, ◌++◌, List, [], ◌∷◌, map, take}
use Rattle.std.specs.List.{flat_map}
use Rattle.std.proofs.lemmas.List.{take_more}
use Rattle.std.proofs.lemmas.Grind.{common_steps}
use Rattle.mql_names.specs.Faults.{told, sooner}
use Rattle.mql_names.specs.Things.{variable_name, param_variable, shares, behind}
use Rattle.mql_walk.specs.Things.{told_by, value_things, dimension_things, start_things, variable_things, variables_things, statement_things, list_things, all_behind, result_things, function_things, inner_things, member_things, enumerator_things, item_things}
use Rattle.mql_walk.specs.Things as thing
use Rattle.mql_walk.proofs.Joined.{each_more, types_more, behind_one, at_value, value_place, value_what, value_types, value_parts, whole_variable, variables_more, names_more, parts_more, behind_more, front_stays, front_of_variables, at_statement, statement_place, statement_kind, statement_locals, statement_values, statement_parts, whole_function, params_more, param_names_more}
use Rattle.mql_walk.proofs.statements.+statements.Goals as goal

pub each_told-loop-s-preserved : goal.each_told-loop-s-preserved
each_told-loop-s-preserved g t c =
    let e = take_more c.args.parts.now c.loop-s.s-index c.s-item.result c.loop-s-test.true ∙ ap (λ x. take c.loop-s.s-index c.args.parts.now ++ x ∷ []) (sym c.s-item.is) in
    let ss = take c.loop-s.s-index c.args.parts.now in (
      rw e (c.sooner-told.ensures ∙ parts_more (g.J.Judge.breaks c.args.judge.now) c.args.shared c.args.locals c.loop-s.inner ss c.s-item.result c.loop-s.told c.in_ok-one.one c.loop-s.invariant.1 c.loop-s.invariant.0 c.in_ok-one.ensures.0),
      rw e (c.in_ok-inner.ensures ∙ ap (λ ls. behind c.args.shared ls c.s-item.result) (c.in_ok-one.ensures.1 ∙ c.loop-s.invariant.1) ∙ behind_more c.args.shared c.args.locals ss c.s-item.result),
    )

pub parts_told-returns : goal.parts_told-returns
parts_told-returns g t c = (
  c.in_ok-told.ensures.0,
  c.truncate.ensures ∙ ap (λ (n : ℕ). take n c.in_ok-told.behind) c.len-count.ensures ∙ ap (take _) c.in_ok-told.ensures.1 ∙ front_stays c.args.shared c.args.locals c.args.parts.now,
)

pub statement_told-returns : goal.statement_told-returns
statement_told-returns g t c =
    let s = c.args.s.now in
    let br = g.J.Judge.breaks c.args.judge.now in
    let h : c.on_statement-at.result ≡ told (br (thing.statement (statement_place s) (statement_kind s))) = grind (arith, common_steps) in
    let e3 : c.shares.result ≡ shares (statement_kind s) = grind (arith, common_steps) in
    let e4 : c.as_slice.result.now ≡ statement_locals s = grind (arith, common_steps) in
    let e5 : c.as_slice-3.result.now ≡ statement_values s = grind (arith, common_steps) in
    let e6 : c.as_slice-4.result.now ≡ statement_parts s = grind (arith, common_steps) in
    let own = c.in_ok-variables.ensures in
    let inner : c.values_told-inner.result ≡ told_by br (flat_map (value_things c.args.locals) c.as_slice-3.result.now) = c.values_told-inner.ensures ∙ ap (λ ls. told_by br (flat_map (value_things ls) c.as_slice-3.result.now)) (c.as_slice-2.ensures ∙ own.1) in
    let rest = c.in_ok-rest.ensures in
    let rest0 = rest.0 ∙ ap (λ ls. told_by br (list_things c.shares.result ls c.as_slice-4.result.now)) own.1 in (
      at_statement br c.args.locals s (statement_place s) (statement_kind s) c.shares.result c.as_slice.result.now c.as_slice-3.result.now c.as_slice-4.result.now
          c.sooner-3.result c.on_statement-at.result c.in_ok-variables.variables c.values_told-inner.result c.in_ok-rest.rest refl refl e3 e4 e5 e6
          h own.0 inner rest0
          (c.sooner-3.ensures ∙ ap (sooner c.on_statement-at.result) (c.sooner-2.ensures ∙ ap (sooner c.in_ok-variables.variables) c.sooner.ensures)),
      rest.1 ∙ own.1,
    )
