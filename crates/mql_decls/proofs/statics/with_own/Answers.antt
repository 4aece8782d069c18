use Rattle.std.proofs.Common.{◌≡◌, ℕ, arith, sym, ap, ◌∙◌, ◌+◌, ◌++◌, [], ◌∷◌, map, take, drop}
use Rattle.std.specs.List.{flat_map}
use Rattle.std.proofs.lemmas.List.{drop_all}
use Rattle.std.proofs.lemmas.Grind.{common_steps}
use Rattle.mql_names.specs.Maps.{meaning}
use Rattle.mql_names.specs.Things.{variable_name, param_variable, shares, behind}
use Rattle.mql_walk.specs.Things.{variables_things, list_things, all_behind}
use Rattle.mql_walk.specs.Things as thing
use Rattle.mql_walk.proofs.Joined.{front_stays, front_of_variables, statement_kind, statement_locals, statement_parts}
use Rattle.mql_sizes.specs.Maps.{value_at}
use Rattle.mql_sizes.proofs.Held.{from_place}
use Rattle.mql_decls.specs.Declarations as spec
use Rattle.mql_decls.specs.Makes.{finding}
use Rattle.mql_decls.proofs.StaticThings.{name_more, names_done, behind_more, variable_more, statement_more, variables_done, statements_done, whole_statement, whole_function}
use Rattle.mql_decls.proofs.statics.with_own.Goals as goal

pub returns : goal.returns
returns c = (
  c.in_ok-new.ensures.0,
  c.truncate.ensures ∙ ap (λ (n : ℕ). take n c.in_ok-new.behind) c.len-count.ensures ∙ ap (take _) c.in_ok-new.ensures.1 ∙ front_of_variables c.args.locals c.args.own.now,
)
