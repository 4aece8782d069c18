-- What a fill does, under both kinds of account (MetaTrader 5 Help, Netting and Hedging Systems).
use Rattle.std.specs.Prelude.{◌≡◌, ℕ, ◌<◌, ◌++◌, Bool, true, false, ◌&&◌, ◌==◌, if◌then◌else◌, List, [], ◌∷◌, length, slice_get, Option, Some, None, IfSome, unwrap_or, Result, Ok, Err, FitsSigned, ℤ, pos, ◌+ℤ◌, ◌<ℤ◌, int_lt}
use Rattle.std.specs.Int.{w64}
use Rattle.std.specs.List.{fold, find}
use Rattle.std.specs.Option.{option_map}
use Rattle.std.specs.Ordering.{int_eq}
use Rattle.market_types.specs.declared.symbol_spec.SymbolSpec.{SymbolSpec}
use Rattle.account.specs.declared.deal.Deal.{Deal}
use Rattle.account.specs.declared.deal.DealKind.{DealKind}
use Rattle.account.specs.declared.deal.DealKind.TheVariants as kind
use Rattle.account.specs.declared.deal.DealEntry.{DealEntry}
use Rattle.account.specs.declared.deal.DealEntry.TheVariants as entry
use Rattle.account.specs.declared.position.Position.{Position}
use Rattle.account.specs.declared.event.Event.{Event}
use Rattle.account.specs.declared.event.Event.TheVariants as event
use Rattle.account.specs.Keyed.{item}
use Rattle.account.specs.Money.{profit, portion, commission}
use Rattle.account.specs.Positions.{position_ticket, same_side, after_deal, positions_after}
use Rattle.account.specs.StopOut.{contract_of}
use Rattle.positions.specs.declared.fill.Fill.{Fill}
use Rattle.positions.specs.declared.fill.Levels.{Levels}
use Rattle.positions.specs.declared.fill.FillFault.{FillFault}
use Rattle.positions.specs.declared.fill.FillFault.TheVariants as fault

-- what a deal of a lot of the symbol costs
abbrev pub rate_of : List SymbolSpec → ℕ → ℤ
rate_of specs symbol =
    unwrap_or (option_map (λ (s : SymbolSpec). s.commission) (slice_get specs symbol)) (pos 0)

abbrev pub kind_of : Bool → DealKind
kind_of true = kind.Buy
kind_of false = kind.Sell

-- a deal that closes nothing
abbrev pub plain : List SymbolSpec → Fill → ℕ → DealEntry → Deal
plain specs f position entry = record {
  ticket = f.deal;
  order = f.order;
  position = position;
  time_ms = f.time_ms;
  symbol = f.symbol;
  kind = kind_of f.buy;
  entry = entry;
  volume = f.volume;
  price = f.price;
  profit = pos 0;
  swap = pos 0;
  commission = commission (rate_of specs f.symbol) f.volume;
  magic = f.magic;
  reason = f.reason;
  comment = f.comment;
}

-- how much of a position a fill on the other side closes: all that it deals, at most all of the position
abbrev pub closing : Fill → Position → ℤ
closing f p = if int_lt f.volume p.volume then f.volume else p.volume

-- the accrued swap that it pays: in proportion to the closed volume, all of it where the whole position
-- closes or is reversed
abbrev pub swap_paid : Fill → Position → ℤ
swap_paid f p = if int_lt f.volume p.volume then portion p.swap f.volume p.volume else p.swap

-- it reverses the position where it deals more than that is
abbrev pub entry_of : Fill → Position → DealEntry
entry_of f p = if int_lt p.volume f.volume then entry.InOut else entry.Out

-- a deal that closes a position, a part of it, or reverses it: the profit is of the closed part
abbrev pub closed : List SymbolSpec → Fill → Position → Deal
closed specs f p = record (plain specs f p.ticket (entry_of f p)) {
  profit = profit p.buy p.price f.price (contract_of specs f.symbol) (closing f p);
  swap = swap_paid f p;
}

-- the deal of a fill that meets a position, or none: the same side adds, the other side closes; where none
-- is met a position of the order's ticket opens
abbrev pub deal_on : List SymbolSpec → Fill → Option Position → Deal
deal_on specs f None = plain specs f f.order entry.In
deal_on specs f (Some p) =
    if same_side p.buy f.buy then plain specs f p.ticket entry.In else closed specs f p

-- a stop that is given, or where it is 0 the one before
unfoldable pub given_or : ℤ → ℤ → ℤ
given_or given before = if int_eq given (pos 0) then before else given

abbrev pub levels_at : ℤ → ℤ → Levels
levels_at sl tp = record { sl = sl; tp = tp }

-- the stops of the position that a fill leaves: opening and reversing set those of the fill, adding sets
-- those that are not 0, reducing leaves them
abbrev pub levels_of : Fill → Option Position → Levels
levels_of f None = levels_at f.sl f.tp
levels_of f (Some p) =
    if same_side p.buy f.buy then levels_at (given_or f.sl p.sl) (given_or f.tp p.tp)
    else if int_lt p.volume f.volume then levels_at f.sl f.tp
    else levels_at p.sl p.tp

-- the event that sets stops, where the position is open and its stops differ
abbrev pub stops_event : Option Position → Levels → List Event
stops_event None l = []
stops_event (Some q) l =
    if int_eq q.sl l.sl && int_eq q.tp l.tp then [] else event.Stops q.ticket l.sl l.tp ∷ []

-- the events of a fill: its deal, and then the stops of what the deal leaves
abbrev pub events_on : List SymbolSpec → Fill → Option Position → List Event
events_on specs f o =
    event.Added (deal_on specs f o) ∷ stops_event (after_deal (deal_on specs f o) o) (levels_of f o)

-- the position of a ticket that is named; 0 names none
abbrev pub named : List Position → ℕ → Option Position
named ps ticket = if ticket == 0 then None else item position_ticket ticket ps

-- the position that a fill meets: under netting the one that is open on its symbol, under hedging the one
-- that it names
abbrev pub met : Bool → List Position → Fill → Option Position
met false ps f = find (λ p. p.symbol == f.symbol) ps
met true ps f = named ps f.position

-- why a fill that names a position is refused under hedging: that position is on its side, or smaller
abbrev pub closing_refusal : Bool → Fill → Position → Option FillFault
closing_refusal false f p = None
closing_refusal true f p =
    if same_side p.buy f.buy then Some fault.WrongSide
    else if int_lt p.volume f.volume then Some fault.TooMuch
    else None

-- under both kinds the named position is to be open on the symbol
abbrev pub named_refusal : Bool → Fill → Option Position → Option FillFault
named_refusal hedging f None = Some fault.PositionClosed
named_refusal hedging f (Some p) =
    if p.symbol == f.symbol then closing_refusal hedging f p else Some fault.PositionClosed

abbrev pub refusal : Bool → List Position → Fill → Option FillFault
refusal hedging ps f =
    if f.position == 0 then None else named_refusal hedging f (item position_ticket f.position ps)

-- the events of a fill, or why it is refused
abbrev pub filled_or : Option FillFault → List Event → Result (List Event) FillFault
filled_or None events = Ok events
filled_or (Some e) events = Err e

abbrev pub filled : Bool → List SymbolSpec → List Position → Fill → Result (List Event) FillFault
filled hedging specs ps f = filled_or (refusal hedging ps f) (events_on specs f (met hedging ps f))

-- what a call leaves: the events behind the others and the positions after them, or all as it was
abbrev pub Leaves : {X : Type 0} → Result (List Event) FillFault → Result X FillFault →
    List Position → List Position → List Event → List Event → Type 0
Leaves (Ok es) (Ok done) ps ps' out out' = (out' ≡ out ++ es) × (ps' ≡ fold positions_after ps es)
Leaves (Ok es) (Err e) ps ps' out out' = (e ≡ fault.OutOfMemory) × (out' ≡ out) × (ps' ≡ ps)
Leaves (Err e) (Ok done) ps ps' out out' = ⊥
Leaves (Err e) (Err e') ps ps' out out' = (e' ≡ e) × (out' ≡ out) × (ps' ≡ ps)

-- what is asked of a fill: a symbol of the list, some volume, and where it opens a position an order of its
-- own
pub record IsFill (hedging : Bool) (specs : List SymbolSpec) (ps : List Position) (f : Fill) : Type 0 where
  pub symbol : f.symbol < length specs
  pub some : pos 0 <ℤ f.volume
  pub order : met hedging ps f ≡ None → 0 < f.order
  pub fresh : met hedging ps f ≡ None → item position_ticket f.order ps ≡ None

-- where it adds to a position, the volume of both is a double
abbrev pub MayAdd : Fill → Option Position → Type 0
MayAdd f o = IfSome o (λ p. same_side p.buy f.buy ≡ true → FitsSigned w64 (p.volume +ℤ f.volume))
