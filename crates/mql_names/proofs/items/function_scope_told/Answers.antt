use Rattle.std.proofs.Common.{◌≡◌, ap, subst, ◌∙◌, ◌++◌, [], ◌∷◌, map, IfOk}
use Rattle.std.specs.List.{flat_map}
use Rattle.mql_names.specs.Types.{Names}
use Rattle.mql_names.specs.Things.{own_names, variable_named, param_variable, body_parts}
use Rattle.mql_names.specs.Things as thing
use Rattle.mql_names.specs.Rules.{told_of}
use Rattle.mql_names.proofs.items.function_scope_told.Goals as goal

pub returns : goal.returns
returns c =
    let first : c.in_ok-named.named ≡ map variable_named (map param_variable c.args.f.now.params) =
    c.in_ok-named.ensures ∙ ap (λ xs. xs ++ map variable_named (map param_variable c.as_slice.result.now)) c.new.ensures ∙ ap (λ qs. map variable_named (map param_variable qs)) c.as_slice.ensures in
    let e : c.as_slice-2.result.now ≡ map variable_named (map param_variable c.args.f.now.params) ++ flat_map own_names (body_parts c.args.f.now.body) =
    c.as_slice-2.ensures ∙ c.in_ok-named-2.ensures ∙ ap (λ xs. xs ++ flat_map own_names c.body_parts.result.now) first
    ∙ ap (λ ss. map variable_named (map param_variable c.args.f.now.params) ++ flat_map own_names ss) c.body_parts.ensures in
    subst (λ ns. IfOk c.scope_told.result (λ b. (names : Names) → b ≡ told_of names (thing.scope ns ∷ []))) e c.scope_told.ensures
