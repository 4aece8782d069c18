use Rattle.std.proofs.Common.{◌≡◌, [], ◌∷◌, rules, sym, subst}
use Rattle.mql_meaning.specs.declared.operator.Operator.{Operator}
use Rattle.mql_meaning.specs.declared.operator.Operator.TheVariants as operators
use Rattle.mql_meaning.specs.declared.types.Sort.TheVariants as sorts
use Rattle.stack_unboxed.proofs.Gives.{told_given}
use Rattle.mql_meaning.specs.Apply.{apply}
use Rattle.stack_unboxed.specs.Unboxed.{Gave, boxed}
use Rattle.stack_unboxed.proofs.operators.of_two.Goals as goal

pub returns-in-Keep : goal.returns-in-Keep
returns-in-Keep c = λ cs.
    subst (λ (o : Operator). Gave c.kept.result (apply cs o (boxed c.args.first ∷ boxed c.args.second ∷ [])) c.args.store.now c.kept.new.store)
    (sym c.in-Keep.is) (c.kept.ensures cs)

pub returns-in-Binary-default-Number : goal.returns-in-Binary-default-Number
returns-in-Binary-default-Number c = λ cs.
    let k = c.in-Binary-default-Number.kind in
    let it : c.args.operator ≡ operators.Binary c.in-Binary-default-Number.operator (sorts.Number k) = search rules in
    subst (λ (o : Operator). Gave c.of_numbers.result (apply cs o (boxed c.args.first ∷ boxed c.args.second ∷ [])) c.args.store.now c.args.store.now)
    (sym it) (told_given _ c.of_numbers.result c.args.store.now (c.of_numbers.ensures cs c.args.store.now))
