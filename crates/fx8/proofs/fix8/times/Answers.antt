use Rattle.std.proofs.Common.{◌≤◌, ◌^◌, unsigned_abs, ℤ, sym, subst}
use Rattle.fx8.proofs.Sizes.{product_back, product_size}
use Rattle.fx8.proofs.fix8.times.Goals as goal

pub returns-clause-value : goal.returns-clause-value
returns-clause-value c = product_back c.args.x c.args.y c.ranges.x c.ranges.y c.requires.left c.requires.right

pub returns-clause-at_most : goal.returns-clause-at_most
returns-clause-at_most c =
    subst (λ (z : ℤ). unsigned_abs z ≤ 2 ^ 126) (sym (product_back c.args.x c.args.y c.ranges.x c.ranges.y c.requires.left c.requires.right))
    (product_size c.args.x c.args.y c.requires.left c.requires.right)
