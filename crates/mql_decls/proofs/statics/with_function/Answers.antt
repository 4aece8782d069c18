use Rattle.std.proofs.Common.{◌≡◌, ℕ, arith, sym, ap, ◌∙◌, ◌+◌, ◌++◌, [], ◌∷◌, map, take, drop}
use Rattle.std.specs.List.{flat_map}
use Rattle.std.proofs.lemmas.List.{drop_all}
use Rattle.std.proofs.lemmas.Grind.{common_steps}
use Rattle.mql_names.specs.Maps.{meaning}
use Rattle.mql_names.specs.Things.{variable_name, param_variable, shares, behind}
use Rattle.mql_walk.specs.Things.{variables_things, list_things, all_behind}
use Rattle.mql_walk.specs.Things as thing
use Rattle.mql_walk.proofs.Joined.{front_stays, front_of_variables, statement_kind, statement_locals, statement_parts}
use Rattle.mql_sizes.specs.Maps.{value_at}
use Rattle.mql_sizes.proofs.Held.{from_place}
use Rattle.mql_decls.specs.Declarations as spec
use Rattle.mql_decls.specs.Makes.{finding}
use Rattle.mql_decls.proofs.StaticThings.{name_more, names_done, behind_more, variable_more, statement_more, variables_done, statements_done, whole_statement, whole_function}
use Rattle.mql_decls.proofs.statics.with_function.Goals as goal

pub returns : goal.returns
returns c =
    let f = c.args.finder.now in
    let own = c.in_ok-own.ensures in
    whole_function (meaning f.maker.now.names.now) (value_at f.maker.now.values.now) f.item f.key.now c.args.f.now c.in_ok-own.locals c.args.found c.in_ok-own.own c.in_ok-all.all
    c.as_slice.result.now c.body_parts.result.now c.as_slice.ensures own.1 c.body_parts.ensures own.0 c.in_ok-all.ensures.0
