use Rattle.std.proofs.Common.{◌≡◌, ℕ, arith, sym, ap, ◌∙◌, ◌+◌, ◌++◌, [], ◌∷◌, map, take, drop}
use Rattle.std.specs.List.{flat_map}
use Rattle.std.proofs.lemmas.List.{drop_all}
use Rattle.std.proofs.lemmas.Grind.{common_steps}
use Rattle.mql_names.specs.Maps.{meaning}
use Rattle.mql_names.specs.Things.{variable_name, param_variable, shares, behind}
use Rattle.mql_walk.specs.Things.{variables_things, list_things, all_behind}
use Rattle.mql_walk.specs.Things as thing
use Rattle.mql_walk.proofs.Joined.{front_stays, front_of_variables, statement_kind, statement_locals, statement_parts}
use Rattle.mql_sizes.specs.Maps.{value_at}
use Rattle.mql_sizes.proofs.Held.{from_place}
use Rattle.mql_decls.specs.Declarations as spec
use Rattle.mql_decls.specs.Makes.{finding}
use Rattle.mql_decls.proofs.StaticThings.{name_more, names_done, behind_more, variable_more, statement_more, variables_done, statements_done, whole_statement, whole_function}
use Rattle.mql_decls.proofs.statics.with_params.Goals as goal

pub loop-q-init : goal.loop-q-init
loop-q-init c = (
  ap (λ ls. c.args.found ++ flat_map (finding c.args.finder.now) (variables_things ls (map param_variable c.args.params.now))) c.new-locals.ensures,
  ap (λ ls. ls ++ map variable_name (map param_variable c.args.params.now)) c.new-locals.ensures,
)

pub loop-q-preserved : goal.loop-q-preserved
loop-q-preserved c =
    let f = c.args.finder.now in
    let qs = c.args.params.now in
    let n = c.loop-q.q-index in
    let q = c.q-item.result in
    let e = ap (map param_variable) (from_place qs n q c.loop-q-test.true c.q-item.is) in (
      variable_more (meaning f.maker.now.names.now) (value_at f.maker.now.values.now) f.item f.key.now (map param_variable (drop n qs)) (map param_variable (drop (n + 1) qs)) (param_variable q) c.loop-q.locals c.in_ok-locals.locals c.loop-q.found c.in_ok-found.found _
          e (c.in_ok-found.ensures ∙ ap (λ ls. c.loop-q.found ++ finding f (thing.variable ls (param_variable q))) c.as_slice.ensures) c.in_ok-locals.ensures c.loop-q.invariant.0,
      name_more (map param_variable (drop n qs)) (map param_variable (drop (n + 1) qs)) (param_variable q) c.loop-q.locals c.in_ok-locals.locals _ e c.in_ok-locals.ensures c.loop-q.invariant.1,
    )

pub returns : goal.returns
returns c =
    let f = c.args.finder.now in
    let e = ap (map param_variable) (drop_all c.loop-q.q-index c.args.params.now c.loop-q-test.false) in (
      variables_done (meaning f.maker.now.names.now) (value_at f.maker.now.values.now) f.item f.key.now _ c.loop-q.locals c.loop-q.found _ e c.loop-q.invariant.0,
      names_done _ c.loop-q.locals _ e c.loop-q.invariant.1,
    )
