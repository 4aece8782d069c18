use Rattle.std.proofs.Common.{refl}
use Rattle.mql_meaning.specs.declared.operator.Operator.TheVariants as operator
use Rattle.stack_effects.proofs.Known.{at_operator}
use Rattle.stack_effects.proofs.operands.apply.Goals as goal

pub returns-in-Index : goal.returns-in-Index
returns-in-Index c =
    at_operator c.args.classes.now c.args.operator operator.Index 2 c.apply_two.result c.args.operands.now
    c.apply_two.new.operands c.args.store.now c.apply_two.new.store c.in-Index.is refl
    (c.apply_two.ensures c.args.classes.now)

pub returns-in-Keep : goal.returns-in-Keep
returns-in-Keep c =
    at_operator c.args.classes.now c.args.operator operator.Keep 2 c.apply_two-in-Keep.result c.args.operands.now
    c.apply_two-in-Keep.new.operands c.args.store.now c.apply_two-in-Keep.new.store c.in-Keep.is refl
    (c.apply_two-in-Keep.ensures c.args.classes.now)

pub returns-in-Update : goal.returns-in-Update
returns-in-Update c =
    at_operator c.args.classes.now c.args.operator (operator.Update c.in-Update.field-0 c.in-Update.field-1) 2 c.apply_two-in-Update.result c.args.operands.now
    c.apply_two-in-Update.new.operands c.args.store.now c.apply_two-in-Update.new.store c.in-Update.is refl
    (c.apply_two-in-Update.ensures c.args.classes.now)

pub returns-in-Binary : goal.returns-in-Binary
returns-in-Binary c =
    at_operator c.args.classes.now c.args.operator (operator.Binary c.in-Binary.field-0 c.in-Binary.field-1) 2 c.apply_two-in-Binary.result c.args.operands.now
    c.apply_two-in-Binary.new.operands c.args.store.now c.apply_two-in-Binary.new.store c.in-Binary.is refl
    (c.apply_two-in-Binary.ensures c.args.classes.now)
