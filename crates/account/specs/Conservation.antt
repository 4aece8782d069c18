-- What is conserved: volumes and money.
use Rattle.std.specs.Prelude.{◌≡◌, ℕ, ◌==◌, if◌then◌else◌, List, Option, Some, None, ℤ, pos, ◌+ℤ◌}
use Rattle.account.specs.declared.deal.Deal.{Deal}
use Rattle.account.specs.declared.position.Position.{Position}
use Rattle.account.specs.declared.event.Event.{Event}
use Rattle.account.specs.Keyed.{item}
use Rattle.account.specs.Money.{for_side}
use Rattle.account.specs.Deals.{total, deals, balance, profit_of, swap_of, commission_of}
use Rattle.account.specs.Positions.{open_positions, position_ticket, is_buy, is_balance}

-- the volume of a position with its sign, above 0 for a buy; 0 where it is not open
abbrev pub signed_volume : Option Position → ℤ
signed_volume None = pos 0
signed_volume (Some p) = for_side p.buy p.volume

-- what a deal adds to the signed volume of the position of a ticket
abbrev pub share : ℕ → Deal → ℤ
share t d =
    if is_balance d.kind then pos 0
    else if d.position == t then for_side (is_buy d.kind) d.volume
    else pos 0

-- a position's signed volume is the signed sum of its deals
abbrev pub VolumesAreSums : Type 0
VolumesAreSums =
    (t : ℕ) (events : List Event) →
    signed_volume (item position_ticket t (open_positions events)) ≡ total (share t) (deals events)

-- the balance is all profits, swaps and commissions, exactly
abbrev pub BalanceIsSums : Type 0
BalanceIsSums =
    (events : List Event) →
    balance events
    ≡ total profit_of (deals events) +ℤ total swap_of (deals events) +ℤ total commission_of (deals events)
