use Rattle.std.specs.Prelude.{[], ◌∷◌}
use Rattle.std.proofs.lemmas.List.Sums.{fold-append}
use Rattle.account.specs.Orders.{orders_after}
use Rattle.order_book.proofs.laws.orders_go_on.Goals as goal

pub returns : goal.returns
returns c = λ events e. fold-append orders_after [] events (e ∷ [])
