-- A quote and the end of a pass take no order ticket.
use Rattle.std.proofs.Common.{◌≡◌, ◌∙◌, ℕ, suc, zero, ◌≤◌, ◌++◌, Bool, true, false, cond, List, [], ◌∷◌, map, filter, Option, Some, None, ℤ, refl, ap, arith, eqb}
use Rattle.std.specs.List.{All, fold, flat_map}
use Rattle.std.specs.Option.{option_map, option_map_or}
use Rattle.std.specs.Ordering.{int_eq}
use Rattle.std.specs.Prelude.{IfSome, pos, slice_get}
use Rattle.std.proofs.lemmas.List.Sums.{fold-append}
use Rattle.market_types.specs.declared.quote.Quote.{Quote}
use Rattle.market_types.specs.declared.symbol_spec.SymbolSpec.{SymbolSpec}
use Rattle.account.specs.declared.account_spec.AccountSpec.{AccountSpec}
use Rattle.account.specs.declared.deal.DealReason.{DealReason}
use Rattle.account.specs.declared.deal.DealReason.TheVariants as reason
use Rattle.account.specs.declared.order.Order.{Order}
use Rattle.account.specs.declared.position.Position.{Position}
use Rattle.account.specs.declared.event.Event.{Event}
use Rattle.account.specs.declared.event.Event.TheVariants.{Placed, Modified, Removed, Triggered, Added, Stops, Swap}
use Rattle.account.specs.declared.event.RemovalCause.{RemovalCause}
use Rattle.account.specs.declared.event.RemovalCause.TheVariants as cause
use Rattle.account.specs.Firing.{expired_orders}
use Rattle.account.specs.Keyed.{item}
use Rattle.account.specs.Orders.{order_ticket, changed, triggered, is_stop_limit, orders_after, orders_in_force}
use Rattle.account.specs.Positions.{position_ticket, open_positions, after_deal}
use Rattle.account.specs.StopOut.{PriceList, worst}
use Rattle.account.proofs.Found.{all_put, all_item}
use Rattle.judgement.specs.Rules.{second_of}
use Rattle.positions.specs.declared.fill.Fill.{Fill}
use Rattle.positions.specs.declared.fill.FillFault.{FillFault}
use Rattle.positions.specs.Fills.{deal_on, levels_of, met, refusal, filled_or, events_on}
use Rattle.positions.specs.Money.{added_by, has_money_for}
use Rattle.desk.specs.declared.trigger.Trigger.{Trigger}
use Rattle.desk.specs.declared.trigger.Trigger.TheVariants as trigger
use Rattle.desk.specs.Effect.{Run, act, acts, swaps, swaps_of, expiries, removals, events_of_fill, order_filled, order_fired, fill_of_order, fill_of_closing, last_prices, position_closed, on_side, triggered_by, closing_of, stopped_out, swapped_run, expired_run, triggered_run, triggers, effect, closing, last_time, with_quote}
use Rattle.desk.specs.Nights.{swap_amount, swap_event, nights_between}
use Rattle.desk.specs.State.{Quoted, have_room}
use Rattle.desk.specs.Tickets.{greater_number, last_after, last_order, next_of}
use Rattle.desk.proofs.Entered.{greater_left, greater_none}
use Rattle.desk.proofs.Fits.{greater_right, deal_order}
use Rattle.desk.proofs.Stepping.{stops_last}
use Rattle.desk.proofs.Tidy.{triggered_ticket}

-- the orders in force have tickets that were taken
changed_known : (n : ℕ) (new : Order) (o : Option Order) → IfSome o (λ x. x.ticket ≤ n) → IfSome (option_map (changed new) o) (λ x. x.ticket ≤ n)
changed_known n new None h = tt
changed_known n new (Some x) h = h

triggered_known : (n : ℕ) (o : Option Order) → IfSome o (λ x. x.ticket ≤ n) → IfSome (option_map triggered o) (λ x. x.ticket ≤ n)
triggered_known n None h = tt
triggered_known n (Some x) h = rw (triggered_ticket x) h

known_more : (n m : ℕ) (os : List Order) → n ≤ m → All (λ o. o.ticket ≤ n) os → All (λ o. o.ticket ≤ m) os
known_more n m os l h = λ i d e. omega (arith, l, h i d e)

known_after : (n : ℕ) (os : List Order) (e : Event) → All (λ o. o.ticket ≤ n) os → All (λ o. o.ticket ≤ last_after n e) (orders_after os e)
known_after n os (Placed o) h = all_put (λ x. x.ticket ≤ greater_number n o.ticket) order_ticket o.ticket (Some o) os (known_more n (greater_number n o.ticket) os (greater_left n o.ticket) h) (greater_right n o.ticket)
known_after n os (Modified o) h = rw (greater_none n) (all_put (λ x. x.ticket ≤ n) order_ticket o.ticket (option_map (changed o) (item order_ticket o.ticket os)) os h (changed_known n o (item order_ticket o.ticket os) (all_item (λ x. x.ticket ≤ n) order_ticket o.ticket os h)))
known_after n os (Removed t c) h = rw (greater_none n) (all_put (λ x. x.ticket ≤ n) order_ticket t None os h tt)
known_after n os (Triggered t) h = rw (greater_none n) (all_put (λ x. x.ticket ≤ n) order_ticket t (option_map triggered (item order_ticket t os)) os h (triggered_known n (item order_ticket t os) (all_item (λ x. x.ticket ≤ n) order_ticket t os h)))
known_after n os (Added d) h = known_more n (greater_number n d.order) os (greater_left n d.order) h
known_after n os (Stops t sl tp) h = rw (greater_none n) h
known_after n os (Swap t a) h = rw (greater_none n) h

known_over : (n : ℕ) (os : List Order) (es : List Event) → All (λ o. o.ticket ≤ n) os → All (λ o. o.ticket ≤ fold last_after n es) (fold orders_after os es)
known_over n os [] h = h
known_over n os (e ∷ es) h = known_over (last_after n e) (orders_after os e) es (known_after n os e h)

pub known_order : (es : List Event) (t : ℕ) → IfSome (item order_ticket t (orders_in_force es)) (λ o. o.ticket ≤ last_order es)
known_order es t = all_item (λ o. o.ticket ≤ last_order es) order_ticket t (orders_in_force es) (known_over 0 [] es (λ i d e. absurd (omega (arith, e))))

-- events after which the last ticket is the same
abbrev IsQuiet : ℕ → List Event → Type 0
IsQuiet n more = fold last_after n more ≡ n

greater_same : (a b : ℕ) → b ≤ a → greater_number a b ≡ a
unfolding greater_number
greater_same a b h = grind (arith, h)

filled_quiet : (n : ℕ) (spec : AccountSpec) (ps : List Position) (f : Fill) (r : Option FillFault) → f.order ≤ n → IsQuiet n (added_by (filled_or r (events_on spec.specs f (met spec.hedging ps f))))
filled_quiet n spec ps f None h =
    let o : Option Position = met spec.hedging ps f in
    stops_last (greater_number n (deal_on spec.specs f o).order) (after_deal (deal_on spec.specs f o) o) (levels_of f o)
    ∙ ap (λ (m : ℕ). greater_number n m) (deal_order spec.specs f o)
    ∙ greater_same n f.order h
filled_quiet n spec ps f (Some x) h = refl

fill_quiet : (n : ℕ) (spec : AccountSpec) (es : List Event) (f : Fill) → f.order ≤ n → IsQuiet n (events_of_fill spec es f)
fill_quiet n spec es f h = filled_quiet n spec (open_positions es) f (refusal spec.hedging (open_positions es) f) h

closed_quiet : (n : ℕ) (spec : AccountSpec) (prices : PriceList) (time_ms : ℤ) (why : DealReason) (es : List Event) (o : Option Position) → IsQuiet n (position_closed spec prices time_ms why es o)
closed_quiet n spec prices time_ms why es None = refl
closed_quiet n spec prices time_ms why es (Some p) = fill_quiet n spec es (fill_of_closing (next_of es).deal time_ms (last_prices prices p.symbol) why p) (omega arith)

order_quiet : (n : ℕ) (spec : AccountSpec) (prices : PriceList) (f : Fill) (es : List Event) → f.order ≤ n → IsQuiet n (order_filled spec prices f es)
order_quiet n spec prices f es h = elim (has_money_for spec prices es f) as (λ b. IsQuiet n (cond b (Removed f.order cause.Filled ∷ events_of_fill spec es f) (Removed f.order cause.NoMoney ∷ []))) [
  | true ↦ ap (λ (m : ℕ). fold last_after m (events_of_fill spec es f)) (greater_none n) ∙ fill_quiet n spec es f h
  | false ↦ greater_none n
]

fired_quiet : (n : ℕ) (spec : AccountSpec) (prices : PriceList) (time_ms : ℤ) (es : List Event) (o : Option Order) → IfSome o (λ x. x.ticket ≤ n) → IsQuiet n (order_fired spec prices time_ms es o)
fired_quiet n spec prices time_ms es None h = refl
fired_quiet n spec prices time_ms es (Some o) h =
    let f : Fill = fill_of_order (next_of es).deal time_ms (last_prices prices o.symbol) o in
    elim (is_stop_limit o.kind) as (λ b. IsQuiet n (cond b (Triggered o.ticket ∷ []) (order_filled spec prices f es))) [
      | true ↦ greater_none n
      | false ↦ order_quiet n spec prices f es h
    ]

trigger_quiet : (spec : AccountSpec) (prices : PriceList) (time_ms : ℤ) (x : Trigger) (es : List Event) → IsQuiet (last_order es) (triggered_by spec prices time_ms x es)
trigger_quiet spec prices time_ms (trigger.Order t) es = fired_quiet (last_order es) spec prices time_ms es (item order_ticket t (orders_in_force es)) (known_order es t)
trigger_quiet spec prices time_ms (trigger.Stop t buy why) es = closed_quiet (last_order es) spec prices time_ms why es (on_side buy (item position_ticket t (open_positions es)))

-- runs after which it is the same
quiet_more : (es more : List Event) → IsQuiet (last_order es) more → last_order (es ++ more) ≡ last_order es
quiet_more es more h = fold-append last_after 0 es more ∙ h

act_last : (adds : List Event → List Event) (run : Run) → ((es : List Event) → IsQuiet (last_order es) (adds es)) → last_order (act adds run).events ≡ last_order run.events
act_last adds run h = elim run.full as (λ b. last_order (cond b run (cond (have_room run.events (adds run.events)) (record { events = run.events ++ adds run.events; full = false }) (record { events = run.events; full = true }))).events ≡ last_order run.events) [
  | true ↦ refl
  | false ↦ elim (have_room run.events (adds run.events)) as (λ b. last_order (cond b (the_run (run.events ++ adds run.events) false) (the_run run.events true)).events ≡ last_order run.events) [
    | true ↦ quiet_more run.events (adds run.events) (h run.events)
    | false ↦ refl
  ]
]
  where
    the_run : List Event → Bool → Run
    the_run es b = record { events = es; full = b }

acts_last : {X : Type 0} (adds : X → List Event → List Event) (run : Run) (xs : List X) → ((x : X) (es : List Event) → IsQuiet (last_order es) (adds x es)) → last_order (acts adds run xs).events ≡ last_order run.events
acts_last adds run [] h = refl
acts_last {X} adds run (x ∷ xs) h = acts_last adds (act (adds x) run) xs h ∙ act_last (adds x) run (h x)

close_quiet : (spec : AccountSpec) (prices : PriceList) (time_ms : ℤ) (why : DealReason) (t : ℕ) (es : List Event) → IsQuiet (last_order es) (closing_of spec prices time_ms why t es)
close_quiet spec prices time_ms why t es = closed_quiet (last_order es) spec prices time_ms why es (item position_ticket t (open_positions es))

stopped_last : (spec : AccountSpec) (prices : PriceList) (time_ms : ℤ) (n : ℕ) (run : Run) → last_order (stopped_out spec prices time_ms n run).events ≡ last_order run.events
stopped_last spec prices time_ms zero run = refl
stopped_last spec prices time_ms (suc n) run = elim (worst spec prices run.events) as (λ o. last_order (option_map_or (λ t. stopped_out spec prices time_ms n (act (closing_of spec prices time_ms reason.StopOut t) run)) o run).events ≡ last_order run.events) [
  | None ↦ refl
  | Some t ↦ stopped_last spec prices time_ms n (act (closing_of spec prices time_ms reason.StopOut t) run) ∙ act_last (closing_of spec prices time_ms reason.StopOut t) run (λ es. close_quiet spec prices time_ms reason.StopOut t es)
]

swap_quiet : (s : SymbolSpec) (nights : ℕ) (ps : List Position) (n : ℕ) → IsQuiet n (flat_map (swap_event s nights) ps)
swap_quiet s nights [] n = refl
swap_quiet s nights (p ∷ ps) n = elim (int_eq (swap_amount s nights p) (pos 0)) as (λ b. IsQuiet n (cond b [] (Swap p.ticket (swap_amount s nights p) ∷ []) ++ flat_map (swap_event s nights) ps)) [
  | true ↦ swap_quiet s nights ps n
  | false ↦ ap (λ (m : ℕ). fold last_after m (flat_map (swap_event s nights) ps)) (greater_none n) ∙ swap_quiet s nights ps n
]

swaps_quiet : (quote : Quote) (ps : List Position) (n : ℕ) (s : Option SymbolSpec) (before : Option (Option ℤ)) → IsQuiet n (swaps_of s before quote ps)
swaps_quiet quote ps n None before = refl
swaps_quiet quote ps n (Some s) None = refl
swaps_quiet quote ps n (Some s) (Some before) = swap_quiet s (nights_between s.swap_day before quote.time_ms) (filter (λ p. eqb p.symbol quote.symbol) ps) n

removed_quiet : {X : Type 0} (t : X → ℕ) (c : RemovalCause) (xs : List X) (n : ℕ) → IsQuiet n (map (λ x. Removed (t x) c) xs)
removed_quiet t c [] n = refl
removed_quiet {X} t c (x ∷ xs) n = ap (λ (m : ℕ). fold last_after m (map (λ y. Removed (t y) c) xs)) (greater_none n) ∙ removed_quiet t c xs n

-- the effect of a quote
pub effect_last : (q : Quoted) (quote : Quote) → last_order (effect q quote).events ≡ last_order q.events
effect_last q quote =
    let prices : PriceList = (with_quote quote q).prices in
    let swapped : Run = swapped_run q quote in
    let expired : Run = expired_run quote swapped in
    let fired : Run = triggered_run q.spec prices quote expired in
    stopped_last q.spec prices quote.time_ms _ fired
    ∙ acts_last (triggered_by q.spec prices quote.time_ms) expired (triggers quote expired.events) (λ x es. trigger_quiet q.spec prices quote.time_ms x es)
    ∙ quiet_more swapped.events (expiries quote (orders_in_force swapped.events)) (removed_quiet (λ t. t) cause.Expired (expired_orders (second_of quote.time_ms) (orders_in_force swapped.events)) (last_order swapped.events))
    ∙ quiet_more q.events (swaps q quote) (swaps_quiet quote (open_positions q.events) (last_order q.events) (slice_get q.spec.specs quote.symbol) (slice_get q.times quote.symbol))

-- and the end of a pass
pub closing_last : (q : Quoted) → last_order (closing q).events ≡ last_order q.events
closing_last q =
    acts_last (closing_of q.spec q.prices (last_time q.times) reason.Client) _ (map position_ticket (open_positions q.events)) (λ t es. close_quiet q.spec q.prices (last_time q.times) reason.Client t es)
    ∙ quiet_more q.events (removals (orders_in_force q.events)) (removed_quiet order_ticket cause.Ended (orders_in_force q.events) (last_order q.events))
