use Rattle.std.proofs.Common.{◌≡◌, ℕ, arith, sym, ap, ◌∙◌, ◌+◌, ◌++◌, [], ◌∷◌, map, take, drop}
use Rattle.std.specs.List.{flat_map}
use Rattle.std.proofs.lemmas.List.{drop_all}
use Rattle.std.proofs.lemmas.Grind.{common_steps}
use Rattle.mql_names.specs.Maps.{meaning}
use Rattle.mql_names.specs.Things.{variable_name, param_variable, shares, behind}
use Rattle.mql_walk.specs.Things.{variables_things, list_things, all_behind}
use Rattle.mql_walk.specs.Things as thing
use Rattle.mql_walk.proofs.Joined.{front_stays, front_of_variables, statement_kind, statement_locals, statement_parts}
use Rattle.mql_sizes.specs.Maps.{value_at}
use Rattle.mql_sizes.proofs.Held.{from_place}
use Rattle.mql_decls.specs.Declarations as spec
use Rattle.mql_decls.specs.Makes.{finding}
use Rattle.mql_decls.proofs.StaticThings.{name_more, names_done, behind_more, variable_more, statement_more, variables_done, statements_done, whole_statement, whole_function}
use Rattle.mql_decls.proofs.statics.with_variables.Goals as goal

pub loop-v-preserved : goal.loop-v-preserved
loop-v-preserved c =
    let f = c.args.finder.now in
    let vs = c.args.variables.now in
    let n = c.loop-v.v-index in
    let v = c.v-item.result in
    let e = from_place vs n v c.loop-v-test.true c.v-item.is in (
      variable_more (meaning f.maker.now.names.now) (value_at f.maker.now.values.now) f.item f.key.now (drop n vs) (drop (n + 1) vs) v c.loop-v.inner c.in_ok-inner.inner c.loop-v.found c.in_ok-found.found _
          e (c.in_ok-found.ensures ∙ ap (λ ls. c.loop-v.found ++ finding f (thing.variable ls v)) c.as_slice.ensures) c.in_ok-inner.ensures c.loop-v.invariant.0,
      name_more (drop n vs) (drop (n + 1) vs) v c.loop-v.inner c.in_ok-inner.inner _ e c.in_ok-inner.ensures c.loop-v.invariant.1,
    )

pub returns : goal.returns
returns c =
    let f = c.args.finder.now in
    let e = drop_all c.loop-v.v-index c.args.variables.now c.loop-v-test.false in (
      variables_done (meaning f.maker.now.names.now) (value_at f.maker.now.values.now) f.item f.key.now _ c.loop-v.inner c.loop-v.found _ e c.loop-v.invariant.0,
      names_done _ c.loop-v.inner _ e c.loop-v.invariant.1,
    )
