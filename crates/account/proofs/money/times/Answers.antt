use Rattle.std.proofs.Common.{ap, ◌∙◌, unsigned_abs}
use Rattle.std.proofs.lemmas.Int.{unsigned_abs-mul}
use Rattle.account.proofs.Products.{product_is, product_within}
use Rattle.account.proofs.money.times.Goals as goal

pub overflow_mul-result : goal.overflow_mul-result
overflow_mul-result c = product_within c.args.a c.args.b c.ranges.a c.ranges.b c.requires

pub returns : goal.returns
returns c =
    let e = product_is c.args.a c.args.b c.ranges.a c.ranges.b c.requires in
    record { value = e; size = ap unsigned_abs e ∙ unsigned_abs-mul c.args.a c.args.b }
