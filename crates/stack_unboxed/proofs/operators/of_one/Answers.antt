use Rattle.std.proofs.Common.{◌≡◌, [], ◌∷◌, rules, sym, subst}
use Rattle.mql_meaning.specs.declared.operator.Operator.{Operator}
use Rattle.mql_meaning.specs.declared.operator.Operator.TheVariants as operators
use Rattle.mql_meaning.specs.declared.types.Sort.TheVariants as sorts
use Rattle.mql_meaning.specs.Apply.{apply}
use Rattle.stack_unboxed.specs.Unboxed.{Tells, boxed}
use Rattle.stack_unboxed.proofs.operators.of_one.Goals as goal

pub returns-in-Read : goal.returns-in-Read
returns-in-Read c = λ cs.
    subst (λ (o : Operator). Tells c.read.result (apply cs o (boxed c.args.operand ∷ [])) c.args.store.now)
    (sym c.in-Read.is) (c.read.ensures cs)

pub returns-in-Convert-Number : goal.returns-in-Convert-Number
returns-in-Convert-Number c = λ cs.
    let it : c.args.operator ≡ operators.Convert (sorts.Number c.in-Convert-Number.kind) = search rules in
    subst (λ (o : Operator). Tells c.converted.result (apply cs o (boxed c.args.operand ∷ [])) c.args.store.now)
    (sym it) (c.converted.ensures cs c.args.store.now)
