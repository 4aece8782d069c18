-- What fills and close-bys conserve, and that positions go on with the journal.
use Rattle.std.specs.Prelude.{◌≡◌, ℕ, ◌++◌, List, [], ◌∷◌, Result, ◌+ℤ◌}
use Rattle.account.specs.declared.position.Position.{Position}
use Rattle.account.specs.declared.event.Event.{Event}
use Rattle.account.specs.Keyed.{item}
use Rattle.account.specs.Deals.{total, deals}
use Rattle.account.specs.Positions.{position_ticket, positions_after, open_positions}
use Rattle.account.specs.Conservation.{signed_volume, share}
use Rattle.positions.specs.declared.fill.FillFault.{FillFault}
use Rattle.positions.specs.Fills.{Leaves}

-- what the signed volume of each position gains is the signed sum of the deals that the events gain
abbrev pub GainsItsDeals : List Position → List Position → List Event → List Event → Type 0
GainsItsDeals ps ps' events events' =
    (t : ℕ) →
    signed_volume (item position_ticket t ps') +ℤ total (share t) (deals events)
    ≡ signed_volume (item position_ticket t ps) +ℤ total (share t) (deals events')

-- the positions are those of the journal, and the signed volume of each is the signed sum of its deals
pub record AreThoseOf (events : List Event) (ps : List Position) : Type 0 where
  pub open_ones : ps ≡ open_positions events
  pub volumes : (t : ℕ) → signed_volume (item position_ticket t ps) ≡ total (share t) (deals events)

-- positions that are those of the journal are so after each event, and after each fill or close-by that adds
-- its events to the journal, or is refused
pub record GoesOn : Type 0 where
  pub by_event :
      (events : List Event) (e : Event) →
      AreThoseOf (events ++ e ∷ []) (positions_after (open_positions events) e)
  pub by_call :
      (answer : Result (List Event) FillFault) (result : Result (Unit {0}) FillFault)
      (ps ps' : List Position) (events events' : List Event) →
      Leaves answer result ps ps' events events' → ps ≡ open_positions events → AreThoseOf events' ps'
