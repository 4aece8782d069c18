use Rattle.std.proofs.Common.{refl, ◌/◌, ◌%◌, arith}
use Rattle.account.proofs.Scaling.{rest_room, scaled_sum, scaled_most}
use Rattle.account.proofs.money.scaled_size.Goals as goal

pub product-requires-2 : goal.product-requires-2
product-requires-2 c = rest_room c.args.n c.args.part c.args.whole (c.args.n % c.args.whole) c.requires.some c.requires.within c.requires.room refl

pub overflow_add-result : goal.overflow_add-result
overflow_add-result c =
    let e = scaled_sum c.args.n c.args.part c.args.whole (c.args.n / c.args.whole) (c.args.n % c.args.whole) c.product.result c.product-2.result c.nearest.result c.requires.some refl refl c.product.ensures c.product-2.ensures c.nearest.ensures in
    let m = scaled_most c.args.n c.args.part c.args.whole c.requires.some c.requires.within in
    record { fits = rw e (omega (arith, m, c.requires.small)) }

pub returns-clause-value : goal.returns-clause-value
returns-clause-value c =
    scaled_sum c.args.n c.args.part c.args.whole (c.args.n / c.args.whole) (c.args.n % c.args.whole) c.product.result c.product-2.result c.nearest.result c.requires.some refl refl c.product.ensures c.product-2.ensures c.nearest.ensures

pub returns-clause-at_most : goal.returns-clause-at_most
returns-clause-at_most c =
    let e = scaled_sum c.args.n c.args.part c.args.whole (c.args.n / c.args.whole) (c.args.n % c.args.whole) c.product.result c.product-2.result c.nearest.result c.requires.some refl refl c.product.ensures c.product-2.ensures c.nearest.ensures in
    rw e (scaled_most c.args.n c.args.part c.args.whole c.requires.some c.requires.within)
