use Rattle.std.proofs.Common.{◌≡◌, ap, subst, ◌∙◌, ◌++◌, [], ◌∷◌, map, IfOk}
use Rattle.mql_names.specs.Types.{Names}
use Rattle.mql_names.specs.Things.{own_names, variable_named}
use Rattle.mql_names.specs.Things as thing
use Rattle.mql_names.specs.Rules.{told_of}
use Rattle.mql_names.proofs.walk.own_scope_told.Goals as goal

pub returns : goal.returns
returns c =
    let e : c.as_slice.result.now ≡ own_names c.args.s.now = c.as_slice.ensures ∙ c.in_ok-named.ensures ∙ ap (λ xs. xs ++ map variable_named c.own_locals.result.now) c.new.ensures ∙ ap (map variable_named) c.own_locals.ensures in
    subst (λ ns. IfOk c.scope_told.result (λ b. (names : Names) → b ≡ told_of names (thing.scope ns ∷ []))) e c.scope_told.ensures
