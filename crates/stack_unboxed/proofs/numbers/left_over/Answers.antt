use Rattle.std.proofs.Common.{pos, ◌<ℤ◌, arith, FitsSigned, w64, rules}
use Rattle.std.specs.Int.{w128}
use Rattle.std.proofs.lemmas.Int.{ints, to_z-of_z}
use Rattle.stack_unboxed.proofs.Ranges.{left_over}
use Rattle.stack_unboxed.proofs.numbers.left_over.Goals as goal

pub returns : goal.returns
returns c =
    let whole : FitsSigned w128 c.remainder.result = search rules in
    let left : FitsSigned w64 c.args.x = c.ranges.x in
    let right : FitsSigned w64 c.args.y = c.ranges.y in
    let some : pos 0 <ℤ c.args.y = omega (arith, ints, c.if-y-le0.false) in
    left_over c.fitted.result c.args.kind c.args.x c.args.y c.remainder.result some (simp to_z-of_z at c.remainder.ensures) (simp to_z-of_z at c.fitted.ensures)
