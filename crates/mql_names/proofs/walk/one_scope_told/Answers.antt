use Rattle.std.proofs.Common.{◌≡◌, ap, subst, ◌∙◌, ◌++◌, [], ◌∷◌, IfOk}
use Rattle.std.specs.List.{flat_map}
use Rattle.mql_names.specs.Types.{Names}
use Rattle.mql_names.specs.Things.{own_names}
use Rattle.mql_names.specs.Things as thing
use Rattle.mql_names.specs.Rules.{told_of}
use Rattle.mql_names.proofs.walk.one_scope_told.Goals as goal

pub returns : goal.returns
returns c =
    let e : c.as_slice.result.now ≡ flat_map own_names c.args.parts.now = c.as_slice.ensures ∙ c.in_ok-named.ensures ∙ ap (λ xs. xs ++ flat_map own_names c.args.parts.now) c.new.ensures in
    subst (λ ns. IfOk c.scope_told.result (λ b. (names : Names) → b ≡ told_of names (thing.scope ns ∷ []))) e c.scope_told.ensures
