-- What the rules of positions keep, and the stops that a fill changes (own).
use Rattle.std.specs.Prelude.{◌≡◌, ℕ, ◌<◌, ◌^◌, ◌&&◌, if◌then◌else◌, List, [], ◌∷◌, length, All, Option, Some, None, ℤ}
use Rattle.std.specs.Ordering.{int_eq}
use Rattle.market_types.specs.declared.symbol_spec.SymbolSpec.{SymbolSpec}
use Rattle.account.specs.declared.position.Position.{Position}
use Rattle.account.specs.declared.event.Event.{Event}
use Rattle.account.specs.declared.event.Event.TheVariants as event
use Rattle.account.specs.Keyed.{Rising}
use Rattle.account.specs.Positions.{position_ticket, after_deal}
use Rattle.account.specs.Ranges.{IsHeld}
use Rattle.positions.specs.declared.fill.Levels.{Levels}
use Rattle.positions.specs.declared.acts.Change.{Change}
use Rattle.positions.specs.declared.acts.Act.{Act}
use Rattle.positions.specs.declared.fill.Fill.{Fill}
use Rattle.positions.specs.Fills.{deal_on, levels_of, stops_event}

-- open positions by rising ticket, each of which keeps the types of its numbers, and fewer than 2^32
pub record IsOpen (ps : List Position) : Type 0 where
  pub rising : Rising position_ticket ps
  pub held : All IsHeld ps
  pub few : length ps < 2 ^ 32

-- the event of a change of stops
abbrev pub change_events : Option Change → List Event
change_events None = []
change_events (Some c) = event.Stops c.ticket c.sl c.tp ∷ []

-- the event that sets the stops of a position of a ticket, where they differ from those that it has
abbrev pub differing : ℕ → ℤ → ℤ → Levels → List Event
differing ticket sl tp l =
    if int_eq sl l.sl && int_eq tp l.tp then [] else event.Stops ticket l.sl l.tp ∷ []

-- what contracts see of a rule of positions
pub record Held : Type 0 where
  pub specs : List SymbolSpec
  pub positions : List Position

-- the deal of a fill that meets a position, twice, and the change of stops that follows
pub record IsActOf (specs : List SymbolSpec) (f : Fill) (o : Option Position) (act : Act) : Type 0 where
  pub deal : act.deal ≡ deal_on specs f o
  pub opening : act.opening ≡ deal_on specs f o
  pub stops : change_events act.stops ≡ stops_event (after_deal (deal_on specs f o) o) (levels_of f o)
