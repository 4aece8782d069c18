use Rattle.std.proofs.Common.{sym, subst, FitsSigned, w64, rules}
use Rattle.std.specs.Int.{w128}
use Rattle.std.proofs.lemmas.Int.{to_z-of_z}
use Rattle.fx8.specs.declared.int_operator.IntOperator.{IntOperator}
use Rattle.stack_unboxed.specs.Unboxed.{Computes}
use Rattle.stack_unboxed.proofs.Ranges.{added, subtracted, multiplied, equal, other}
use Rattle.stack_unboxed.proofs.numbers.in_kind.Goals as goal

pub returns-in-Add : goal.returns-in-Add
returns-in-Add c =
    let whole : FitsSigned w128 c.sum.result = search rules in
    let left : FitsSigned w64 c.args.x = c.ranges.x in
    let right : FitsSigned w64 c.args.y = c.ranges.y in
    subst (λ (o : IntOperator). Computes c.fitted.result o c.args.kind c.args.x c.args.y) (sym c.in-Add.is)
    (added c.fitted.result c.args.kind c.args.x c.args.y c.sum.result (simp to_z-of_z at c.sum.ensures) (simp to_z-of_z at c.fitted.ensures))

pub returns-in-Subtract : goal.returns-in-Subtract
returns-in-Subtract c =
    let whole : FitsSigned w128 c.difference.result = search rules in
    let left : FitsSigned w64 c.args.x = c.ranges.x in
    let right : FitsSigned w64 c.args.y = c.ranges.y in
    subst (λ (o : IntOperator). Computes c.fitted-in-Subtract.result o c.args.kind c.args.x c.args.y) (sym c.in-Subtract.is)
    (subtracted c.fitted-in-Subtract.result c.args.kind c.args.x c.args.y c.difference.result (simp to_z-of_z at c.difference.ensures) (simp to_z-of_z at c.fitted-in-Subtract.ensures))

pub returns-in-Multiply : goal.returns-in-Multiply
returns-in-Multiply c =
    let whole : FitsSigned w128 c.product.result = search rules in
    let left : FitsSigned w64 c.args.x = c.ranges.x in
    let right : FitsSigned w64 c.args.y = c.ranges.y in
    subst (λ (o : IntOperator). Computes c.fitted-in-Multiply.result o c.args.kind c.args.x c.args.y) (sym c.in-Multiply.is)
    (multiplied c.fitted-in-Multiply.result c.args.kind c.args.x c.args.y c.product.result (simp to_z-of_z at c.product.ensures) (simp to_z-of_z at c.fitted-in-Multiply.ensures))

pub returns-in-Equal : goal.returns-in-Equal
returns-in-Equal c =
    let left : FitsSigned w64 c.args.x = c.ranges.x in
    let right : FitsSigned w64 c.args.y = c.ranges.y in
    subst (λ (o : IntOperator). Computes c.told-in-Equal.result o c.args.kind c.args.x c.args.y) (sym c.in-Equal.is)
    (equal c.told-in-Equal.result c.args.kind c.args.x c.args.y c.equal.result (simp to_z-of_z at c.equal.ensures) c.told-in-Equal.ensures)

pub returns-in-NotEqual : goal.returns-in-NotEqual
returns-in-NotEqual c =
    let left : FitsSigned w64 c.args.x = c.ranges.x in
    let right : FitsSigned w64 c.args.y = c.ranges.y in
    subst (λ (o : IntOperator). Computes c.told-in-NotEqual.result o c.args.kind c.args.x c.args.y) (sym c.in-NotEqual.is)
    (other c.told-in-NotEqual.result c.args.kind c.args.x c.args.y c.equal-in-NotEqual.result (simp to_z-of_z at c.equal-in-NotEqual.ensures) c.told-in-NotEqual.ensures)
