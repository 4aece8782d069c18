use Rattle.std.proofs.Common.{sym, ap, ◌∙◌, ◌++◌, [], ◌∷◌}
use Rattle.mql_parents.specs.Parents.{derived}
use Rattle.mql_parents.proofs.Held.{named, parent_held, held_as}
use Rattle.mql_parents.proofs.known.with_class.Goals as goal

pub returns-in_ok-insert-in-Some : goal.returns-in_ok-insert-in-Some
returns-in_ok-insert-in-Some c = λ ds h.
    let x = c.as_slice.result.now in
    let p = c.type_name.result in
    held_as c.insert.new.self (ds ++ named x p.now ∷ []) (ds ++ derived c.args.c.now c.args.c.now.parent)
    (ap (λ y. ds ++ named y p.now ∷ []) c.as_slice.ensures ∙ ap (λ q. ds ++ named c.args.c.now.name q ∷ []) c.type_name.ensures ∙ ap (λ o. ds ++ derived c.args.c.now o) (sym c.in-Some.is))
    (parent_held c.args.parents c.insert.new.self x p ds c.in_ok-insert-in-Some.ensures.updates h)
