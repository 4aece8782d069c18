-- Books stay in step with what the journal gains.
use Rattle.std.proofs.Common.{◌≡◌, ◌∙◌, ℕ, ◌++◌, Bool, true, false, cond, List, [], ◌∷◌, fold, Option, Some, None, refl, ap, sym, ◌&&◌}
use Rattle.std.specs.Ordering.{int_eq}
use Rattle.std.proofs.lemmas.List.Sums.{fold-append}
use Rattle.market_types.specs.declared.quote.Quote.{Quote}
use Rattle.market_types.specs.declared.symbol_spec.SymbolSpec.{SymbolSpec}
use Rattle.account.specs.declared.account_spec.AccountSpec.{AccountSpec}
use Rattle.account.specs.declared.order.Order.{Order}
use Rattle.account.specs.declared.position.Position.{Position}
use Rattle.account.specs.declared.event.Event.{Event}
use Rattle.account.specs.declared.event.Event.TheVariants.{Added, Stops, Modified}
use Rattle.std.specs.Prelude.{is_err, Result, Ok, Err}
use Rattle.order_book.specs.Book.{IsModified}
use Rattle.order_book.specs.declared.book_fault.BookFault.{BookFault}
use Rattle.account.specs.Journal.{deposit_deal}
use Rattle.account.specs.Orders.{orders_after, orders_in_force}
use Rattle.account.specs.Positions.{positions_after, after_deal, open_positions}
use Rattle.positions.specs.declared.fill.Fill.{Fill}
use Rattle.positions.specs.declared.fill.Levels.{Levels}
use Rattle.positions.specs.Fills.{deal_on, met, levels_of, stops_event}
use Rattle.desk.specs.Effect.{with_quote}
use Rattle.desk.specs.State.{Quoted}
use Rattle.desk.specs.Books.{with_more, IsRuleOf, IsInStep, fill_events}
use Rattle.desk.specs.Tickets.{greater_number, last_after, last_order, order_of_event}
use Rattle.desk.proofs.Entered.{greater_none}
use Rattle.desk.proofs.Fits.{deal_order}

-- one more event
pub step_one : (hedging hedging' : Bool) (specs specs' : List SymbolSpec) (ps ps' : List Position) (os os' : List Order) (last last' : ℕ) (q q' : Quoted) (e : Event) → IsInStep hedging specs ps os last q → hedging' ≡ hedging → specs' ≡ specs → ps' ≡ positions_after ps e → os' ≡ orders_after os e → last' ≡ greater_number last (order_of_event e) → q' ≡ with_more (e ∷ []) q → IsInStep hedging' specs' ps' os' last' q'
step_one hedging hedging' specs specs' ps ps' os os' last last' q q' e i k s p o l h =
    rw h (record {
      rule = record {
        kind = k ∙ i.rule.kind;
        symbols = s ∙ i.rule.symbols;
        positions = p ∙ ap (λ (xs : List Position). positions_after xs e) i.rule.positions ∙ sym (fold-append positions_after [] q.events (e ∷ []));
      };
      orders = o ∙ ap (λ (xs : List Order). orders_after xs e) i.orders ∙ sym (fold-append orders_after [] q.events (e ∷ []));
      ticket = l ∙ ap (λ (n : ℕ). greater_number n (order_of_event e)) i.ticket ∙ sym (fold-append last_after 0 q.events (e ∷ []));
    })

-- one more event that is of no order
pub step_quiet : (hedging hedging' : Bool) (specs specs' : List SymbolSpec) (ps ps' : List Position) (os os' : List Order) (last : ℕ) (q q' : Quoted) (e : Event) → order_of_event e ≡ 0 → IsInStep hedging specs ps os last q → hedging' ≡ hedging → specs' ≡ specs → ps' ≡ positions_after ps e → os' ≡ orders_after os e → q' ≡ with_more (e ∷ []) q → IsInStep hedging' specs' ps' os' last q'
step_quiet hedging hedging' specs specs' ps ps' os os' last q q' e z i k s p o h =
    step_one hedging hedging' specs specs' ps ps' os os' last last q q' e i k s p o (sym (greater_none last) ∙ ap (λ (n : ℕ). greater_number last n) (sym z)) h

-- the stops that follow a deal are of no order
stops_orders : (os : List Order) (o : Option Position) (l : Levels) → fold orders_after os (stops_event o l) ≡ os
stops_orders os None l = refl
stops_orders os (Some p) l = elim (int_eq p.sl l.sl && int_eq p.tp l.tp) as (λ b. fold orders_after os (cond b [] (Stops p.ticket l.sl l.tp ∷ [])) ≡ os) [ true ↦ refl | false ↦ refl ]

pub stops_last : (n : ℕ) (o : Option Position) (l : Levels) → fold last_after n (stops_event o l) ≡ n
stops_last n None l = refl
stops_last n (Some p) l = elim (int_eq p.sl l.sl && int_eq p.tp l.tp) as (λ b. fold last_after n (cond b [] (Stops p.ticket l.sl l.tp ∷ [])) ≡ n) [ true ↦ refl | false ↦ greater_none n ]

filled_orders : (q : Quoted) (f : Fill) → orders_in_force (q.events ++ fill_events f q) ≡ orders_in_force q.events
filled_orders q f =
    let o : Option Position = met q.spec.hedging (open_positions q.events) f in
    fold-append orders_after [] q.events (fill_events f q) ∙ stops_orders (orders_in_force q.events) (after_deal (deal_on q.spec.specs f o) o) (levels_of f o)

pub filled_last : (q : Quoted) (f : Fill) → last_order (q.events ++ fill_events f q) ≡ greater_number (last_order q.events) f.order
filled_last q f =
    let o : Option Position = met q.spec.hedging (open_positions q.events) f in
    fold-append last_after 0 q.events (fill_events f q)
    ∙ stops_last (greater_number (last_order q.events) (deal_on q.spec.specs f o).order) (after_deal (deal_on q.spec.specs f o) o) (levels_of f o)
    ∙ ap (λ (n : ℕ). greater_number (last_order q.events) n) (deal_order q.spec.specs f o)

-- a fill
pub step_filled : (hedging hedging' : Bool) (specs specs' : List SymbolSpec) (ps ps' : List Position) (os : List Order) (last last' : ℕ) (q q' : Quoted) (f : Fill) → IsInStep hedging specs ps os last q → IsRuleOf hedging' specs' ps' q' → last' ≡ greater_number last f.order → q' ≡ with_more (fill_events f q) q → IsInStep hedging' specs' ps' os last' q'
step_filled hedging hedging' specs specs' ps ps' os last last' q q' f i r l h = record {
  rule = r;
  orders = i.orders ∙ sym (filled_orders q f) ∙ ap (λ (x : Quoted). orders_in_force x.events) (sym h);
  ticket = l ∙ ap (λ (n : ℕ). greater_number n f.order) i.ticket ∙ sym (filled_last q f) ∙ ap (λ (x : Quoted). last_order x.events) (sym h);
}

-- books that begin
pub step_begun : (hedging : Bool) (specs : List SymbolSpec) (ps : List Position) (spec : AccountSpec) (q : Quoted) → hedging ≡ spec.hedging → specs ≡ spec.specs → ps ≡ [] → q.spec ≡ spec → q.events ≡ Added (deposit_deal spec) ∷ [] → IsInStep hedging specs ps [] 0 q
step_begun hedging specs ps spec q k s p a e = record {
  rule = record { kind = rw a k; symbols = rw a s; positions = rw e p };
  orders = rw e refl;
  ticket = rw e (sym (greater_none 0));
}

-- an order that was modified
pub of_modified : (os : List Order) (new : Order) (r : Result (Unit {0}) BookFault) (after : List Order) → is_err r ≡ false → IsModified os new r after → after ≡ orders_after os (Modified new)
of_modified os new (Ok x) after e h = h.1
of_modified os new (Err x) after e h = cc

-- a loud quote
pub step_quoted : (hedging : Bool) (specs : List SymbolSpec) (ps : List Position) (os : List Order) (last : ℕ) (q q' : Quoted) (quote : Quote) → IsInStep hedging specs ps os last q → q' ≡ with_quote quote q → IsInStep hedging specs ps os last q'
step_quoted hedging specs ps os last q q' quote i e = rw e (record { rule = record { kind = i.rule.kind; symbols = i.rule.symbols; positions = i.rule.positions }; orders = i.orders; ticket = i.ticket })
