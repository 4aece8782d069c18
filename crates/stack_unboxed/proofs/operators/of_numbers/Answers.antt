use Rattle.std.proofs.Common.{◌≡◌, [], ◌∷◌, sym, subst, rules, FitsSigned, w64}
use Rattle.std.specs.Prelude.{ℤ}
use Rattle.std.proofs.lemmas.Int.{to_z-of_z}
use Rattle.fx8.specs.declared.int_kind.IntKind.{IntKind}
use Rattle.mql_meaning.specs.declared.operator.Operator.TheVariants as operators
use Rattle.mql_meaning.specs.declared.types.Sort.TheVariants as sorts
use Rattle.mql_meaning.specs.Apply.{apply}
use Rattle.mql_meaning.specs.Changes.{Done}
use Rattle.mql_meaning.specs.Operands as meaning
use Rattle.mql_mean.specs.declared.value.Value.TheVariants as value
use Rattle.stack_unboxed.specs.declared.unboxed.Unboxed.{Unboxed}
use Rattle.stack_unboxed.specs.declared.unboxed.Unboxed.TheVariants as unboxed
use Rattle.stack_unboxed.specs.Unboxed.{boxed}
use Rattle.stack_unboxed.proofs.Gives.{numbers_given}
use Rattle.stack_unboxed.proofs.operators.of_numbers.Goals as goal

pub returns-in-Some : goal.returns-in-Some
returns-in-Some c = λ cs s.
    let fits : FitsSigned w64 c.in-Some.number = search rules in
    let left : FitsSigned w64 c.in-Number.x.number = search rules in
    let right : FitsSigned w64 c.in-Number-y.y.number = search rules in
    let given = numbers_given cs c.args.operator c.args.kind c.in-Number.x c.in-Number-y.y c.in-Some.number s (simp to_z-of_z at c.in-Some.ensures) in
    let kinds = subst (λ (k : IntKind). apply cs (operators.Binary c.args.operator (sorts.Number c.args.kind)) (boxed (unboxed.Number c.in-Number.x) ∷ boxed (unboxed.Number c.in-Number-y.y) ∷ []) s ≡ Done (meaning.Val (value.Num k c.in-Some.number)) s) (sym c.kind_of_result.ensures) given in
    let first = subst (λ (u : Unboxed). apply cs (operators.Binary c.args.operator (sorts.Number c.args.kind)) (boxed u ∷ boxed (unboxed.Number c.in-Number-y.y) ∷ []) s ≡ Done (meaning.Val (value.Num c.kind_of_result.result c.in-Some.number)) s) (sym c.in-Number.is) kinds in
    subst (λ (z : ℤ). apply cs (operators.Binary c.args.operator (sorts.Number c.args.kind)) (boxed c.args.x ∷ boxed c.args.y ∷ []) s ≡ Done (meaning.Val (value.Num c.kind_of_result.result z)) s)
    (sym (to_z-of_z w64 c.in-Some.number fits))
    (subst (λ (u : Unboxed). apply cs (operators.Binary c.args.operator (sorts.Number c.args.kind)) (boxed c.args.x ∷ boxed u ∷ []) s ≡ Done (meaning.Val (value.Num c.kind_of_result.result c.in-Some.number)) s) (sym c.in-Number-y.is) first)
