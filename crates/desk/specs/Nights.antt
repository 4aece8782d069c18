-- The nights between two quotes, and the swap of a position (MetaTrader 5 Help, Contract specification: swaps
-- and the triple day; the rounding is our own).
use Rattle.std.specs.Prelude.{ℕ, zero, suc, ◌+◌, ◌-◌, ◌%◌, ◌^◌, ◌==◌, ◌||◌, if◌then◌else◌, List, [], ◌∷◌, Option, Some, None, ℤ, pos, ◌*ℤ◌}
use Rattle.std.specs.List.{filter, flat_map}
use Rattle.std.specs.Ordering.{int_eq}
use Rattle.fx8.specs.Rounding.{rounded}
use Rattle.market_types.specs.declared.symbol_spec.SymbolSpec.{SymbolSpec}
use Rattle.account.specs.declared.position.Position.{Position}
use Rattle.account.specs.declared.event.Event.{Event}
use Rattle.account.specs.declared.event.Event.TheVariants as event
use Rattle.desk.specs.Sound.{day_of}

-- the weekday of a day, 0 for Sunday: 1970-01-01 was a Thursday
abbrev pub weekday : ℕ → ℕ
weekday day = (day + 4) % 7

-- how often the night after a day counts: not after Saturday and Sunday, three times after the triple day
unfoldable pub night_after : ℕ → ℕ → ℕ
night_after swap_day day =
    if weekday day == 6 || weekday day == 0 then 0 else if weekday day == swap_day then 3 else 1

-- the nights after so many days from a day on
abbrev pub nights_from : ℕ → ℕ → ℕ → ℕ
nights_from swap_day day zero = 0
nights_from swap_day day (suc n) = nights_from swap_day day n + night_after swap_day (day + n)

-- the nights from one loud quote to the next; none before the first
abbrev pub nights_between : ℕ → Option ℤ → ℤ → ℕ
nights_between swap_day None to = 0
nights_between swap_day (Some from) to = nights_from swap_day (day_of from) (day_of to - day_of from)

-- what a bought, or sold, lot earns or costs a night
abbrev pub swap_rate : SymbolSpec → Position → ℤ
swap_rate s p = if p.buy then s.swap_long else s.swap_short

-- what a position earns or costs in so many nights: the amount of one night, rounded, so many times
unfoldable pub swap_amount : SymbolSpec → ℕ → Position → ℤ
swap_amount s nights p = rounded (swap_rate s p *ℤ p.volume) (pos (10 ^ 8)) *ℤ pos nights

-- the event of that, where it is not 0
abbrev pub swap_event : SymbolSpec → ℕ → Position → List Event
swap_event s nights p =
    if int_eq (swap_amount s nights p) (pos 0) then []
    else event.Swap p.ticket (swap_amount s nights p) ∷ []

-- the swap of the positions of a symbol at a place, in the order of their tickets
abbrev pub swap_events : SymbolSpec → ℕ → ℕ → List Position → List Event
swap_events s place nights ps = flat_map (swap_event s nights) (filter (λ p. p.symbol == place) ps)

-- the event of an amount that the position of a ticket accrues
abbrev pub accrual : ℕ × ℤ → Event
accrual swap = event.Swap swap.0 swap.1
