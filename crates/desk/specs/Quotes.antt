-- What `quote` and `close_all` ask for, answer and leave (own).
use Rattle.std.specs.Prelude.{◌≡◌, ◌<◌, true, false, length, Result, Ok, Err, ◌≤ℤ◌}
use Rattle.market_types.specs.declared.quote.Quote.{Quote}
use Rattle.market_types.specs.Ordered.{IsMoment, IsPrice}
use Rattle.market_data.specs.Quotes.{IsAsk}
use Rattle.desk.specs.declared.fault.DeskFault.{DeskFault}
use Rattle.desk.specs.declared.fault.DeskFault.TheVariants as desk_fault
use Rattle.desk.specs.Effect.{Run, last_time, with_quote, effect, closing}
use Rattle.desk.specs.State.{Quoted, DeskState}

-- a loud quote that may come: of a symbol of the list, at a moment that is not before the last quote's, at
-- prices that a quote of a price file may have
pub record MayQuote (q : Quoted) (quote : Quote) : Type 0 where
  pub symbol : quote.symbol < length q.spec.specs
  pub moment : IsMoment quote.time_ms
  pub later : last_time q.times ≤ℤ quote.time_ms
  pub bid : IsPrice quote.bid
  pub ask : IsAsk quote.ask

-- a desk whose prices and times are those given, and whose journal is that of a run
abbrev pub left_by : Quoted → Run → DeskState → DeskState
left_by q run a = record a { quoted = record q { events = run.events } }

-- what a call that does a run answers and leaves: `DealsExhausted` exactly where the run is full, and what
-- was done before the deal that finds no room stands; after want of memory the desk is closed
abbrev pub Leaves : Quoted → Run → DeskState → Result (Unit {0}) DeskFault → DeskState → Type 0
Leaves q run a (Ok done) a' = (run.full ≡ false) × (a' ≡ left_by q run a)
Leaves q run a (Err desk_fault.DealsExhausted) a' = (run.full ≡ true) × (a' ≡ left_by q run a)
Leaves q run a (Err desk_fault.RequestsExhausted) a' = ⊥
Leaves q run a (Err desk_fault.OutOfMemory) a' = a'.closed ≡ true

-- what `quote` answers and leaves: the quote's prices and time stand from then on, and its effect is done
abbrev pub Quotes : DeskState → Quote → Result (Unit {0}) DeskFault → DeskState → Type 0
Quotes a quote result a' = Leaves (with_quote quote a.quoted) (effect a.quoted quote) a result a'

-- what `close_all` answers and leaves
abbrev pub Closes : DeskState → Result (Unit {0}) DeskFault → DeskState → Type 0
Closes a result a' = Leaves a.quoted (closing a.quoted) a result a'
