use Rattle.std.proofs.Common.{◌≡◌, [], ◌∷◌, sym, subst, rules, FitsSigned, w64}
use Rattle.std.specs.Prelude.{ℤ}
use Rattle.std.specs.Int.{w128}
use Rattle.std.proofs.lemmas.Int.{to_z-of_z}
use Rattle.mql_meaning.specs.declared.operator.Operator.TheVariants as operators
use Rattle.mql_meaning.specs.declared.types.Sort.TheVariants as sorts
use Rattle.mql_meaning.specs.Apply.{apply}
use Rattle.mql_meaning.specs.Changes.{Done}
use Rattle.mql_meaning.specs.Operands as meaning
use Rattle.mql_mean.specs.declared.value.Value.TheVariants as value
use Rattle.stack_unboxed.specs.declared.unboxed.Unboxed.{Unboxed}
use Rattle.stack_unboxed.specs.Unboxed.{boxed}
use Rattle.stack_unboxed.proofs.Gives.{number_converted}
use Rattle.stack_unboxed.proofs.operators.converted.Goals as goal

pub returns-in-Some : goal.returns-in-Some
returns-in-Some c = λ cs s.
    let fits : FitsSigned w64 c.in-Some.number = search rules in
    let was : FitsSigned w64 c.in-Number.old.number = search rules in
    let wide : FitsSigned w128 c.in-Number.old.number = search rules in
    let gives = number_converted cs c.args.kind c.in-Number.old.kind c.in-Number.old.number c.in-Some.number s (simp to_z-of_z at c.in-Some.ensures) in
    subst (λ (z : ℤ). apply cs (operators.Convert (sorts.Number c.args.kind)) (boxed c.args.operand ∷ []) s ≡ Done (meaning.Val (value.Num c.args.kind z)) s)
    (sym (to_z-of_z w64 c.in-Some.number fits))
    (subst (λ (u : Unboxed). apply cs (operators.Convert (sorts.Number c.args.kind)) (boxed u ∷ []) s ≡ Done (meaning.Val (value.Num c.args.kind c.in-Some.number)) s)
    (sym c.in-Number.is) gives)
