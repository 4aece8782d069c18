use Rattle.std.proofs.Common.{ltb, rules, arith}
use Rattle.std.proofs.lemmas.List.Sorted.{IsPartitionPoint-from_clause, IsPartitionedBy-ltb}
use Rattle.account.specs.Orders.{order_ticket}
use Rattle.order_book.proofs.Lower.{never_falls, lower_is}
use Rattle.order_book.proofs.sorted.lower.Goals as goal

pub returns-clause-value : goal.returns-clause-value
returns-clause-value c =
    let parted = IsPartitionedBy-ltb order_ticket c.args.orders.now c.args.ticket (never_falls order_ticket c.args.orders.now c.requires) in
    let point = IsPartitionPoint-from_clause (λ o. ltb (order_ticket o) c.args.ticket) _ _ c.partition_point.ensures.partitioned parted (λ a r q k. search rules) in
    lower_is order_ticket c.args.ticket c.args.orders.now c.partition_point.result c.partition_point.ensures.bound (λ k d h. point.0 k d (omega arith) h) (λ k d h g. point.1 k d h g)
