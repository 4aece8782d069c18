-- The fill of an order in force (own).
use Rattle.std.specs.Prelude.{◌≡◌, ◌<◌, ◌≤◌, None}
use Rattle.account.specs.Keyed.{item}
use Rattle.account.specs.Positions.{position_ticket, open_positions}
use Rattle.positions.specs.declared.fill.Fill.{Fill}
use Rattle.positions.specs.Fills.{met}
use Rattle.desk.specs.State.{Quoted}
use Rattle.desk.specs.Sound.{MayFill}
use Rattle.desk.specs.Tickets.{last_order}

-- the fill of an order in force: it names no position, and no position has the ticket of its order
pub record IsOrderFill (q : Quoted) (f : Fill) : Type 0 where
  pub may : MayFill q.spec q.prices f (met q.spec.hedging (open_positions q.events) f)
  pub unnamed : f.position ≡ 0
  pub from : 0 < f.order
  pub taken : f.order ≤ last_order q.events
  pub fresh : item position_ticket f.order (open_positions q.events) ≡ None
