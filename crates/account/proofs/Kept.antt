-- What a ledger keeps goes on being that of its events.
use Rattle.std.proofs.Common.{◌≡◌, ◌∙◌, suc, ◌+◌, ◌<◌, ◌≤◌, ◌^◌, ◌++◌, append-nil, Bool, true, false, cond, List, [], ◌∷◌, ℕ, zero, length, take, drop, filter, fold, Option, Some, None, ℤ, pos, ◌+ℤ◌, FitsSigned, refl, ap, sym, subst, arith, rules}
use Rattle.std.specs.List.{All, cons_option}
use Rattle.std.specs.Prelude.{IfSome, MatchBool, ⊤}
use Rattle.std.specs.Option.{option_map}
use Rattle.std.specs.Int.{w128}
use Rattle.std.proofs.lemmas.Int.{ints}
use Rattle.std.proofs.lemmas.List.Sums.{fold-append}
use Rattle.std.proofs.lemmas.List.Elements.{filter_map-append}
use Rattle.account.specs.declared.account_spec.AccountSpec.{AccountSpec}
use Rattle.account.specs.declared.deal.Deal.{Deal}
use Rattle.account.specs.declared.position.Position.{Position}
use Rattle.account.specs.declared.totals.Totals.{Totals}
use Rattle.account.specs.declared.event.Event.{Event}
use Rattle.account.specs.declared.event.Event.TheVariants.{Placed, Modified, Removed, Triggered, Added, Stops, Swap}
use Rattle.market_types.specs.declared.symbol_spec.SymbolSpec.{SymbolSpec}
use Rattle.account.specs.declared.ledger.Books.{Books}
use Rattle.account.specs.Keyed.{Rising, item, put}
use Rattle.account.specs.Deals.{total, net, deal_of, deals, trading_deals, balance, profit_of, swap_of, commission_of}
use Rattle.account.specs.Positions.{positions_after, open_positions, position_ticket, after_deal, is_balance, with_stops, with_swap}
use Rattle.account.specs.Statistics.{gain, loss, is_trade, is_profit_trade, is_loss_trade, balance_path, greater}
use Rattle.account.specs.Totals.{totals_of, totals_after, FitsAfter}
use Rattle.account.specs.Ranges.{IsWithin, IsHeld, IsPriced, Floats, HasPrices, KeepsTypes, MayDeal}
use Rattle.account.specs.StopOut.{PriceList, floating, symbol_margin, total_below, margin_by, margin_of}
use Rattle.account.specs.Journal.{deposit_deal}
use Rattle.account.specs.Books.{IsBooks, is_full}
use Rattle.account.proofs.Running.{totals-more, balance-now, net-fits, fall-fits, length-more}
use Rattle.account.proofs.Steps.{rising_after}
use Rattle.account.proofs.Found.{all_put, all_item}
use Rattle.account.proofs.Bounds.{few_open}
use Rattle.account.proofs.Conserved.{sums}

-- tickets rise in what is read off events
rising_over : (ps : List Position) (es : List Event) → Rising position_ticket ps → Rising position_ticket (fold positions_after ps es)
rising_over ps [] r = r
rising_over ps (e ∷ es) r = rising_over (positions_after ps e) es (rising_after ps e r)

pub rising_open : (es : List Event) → Rising position_ticket (open_positions es)
rising_open es = rising_over [] es tt

pub deals_more : (es : List Event) (e : Event) → deals (es ++ e ∷ []) ≡ deals es ++ cons_option (deal_of e) []
deals_more es e = filter_map-append deal_of es (e ∷ [])

pub open_more : (es : List Event) (e : Event) → open_positions (es ++ e ∷ []) ≡ positions_after (open_positions es) e
open_more es e = fold-append positions_after [] es (e ∷ [])

behind_first : (ds : List Deal) (x d : Deal) → take 1 ds ≡ x ∷ [] → drop 1 (ds ++ d ∷ []) ≡ drop 1 ds ++ d ∷ []
behind_first [] x d h = cc
behind_first (y ∷ ds) x d h = refl

pub still_first : (ds : List Deal) (x d : Deal) → take 1 ds ≡ x ∷ [] → take 1 (ds ++ d ∷ []) ≡ x ∷ []
still_first [] x d h = cc
still_first (y ∷ ds) x d h = h

pub trading_more : (spec : AccountSpec) (es : List Event) (d : Deal) → take 1 (deals es) ≡ deposit_deal spec ∷ [] → trading_deals (es ++ Added d ∷ []) ≡ trading_deals es ++ d ∷ []
trading_more spec es d f = ap (λ (ds : List Deal). drop 1 ds) (deals_more es (Added d)) ∙ behind_first (deals es) (deposit_deal spec) d f

-- an event keeps the types of the numbers of each position
stops_held : (sl tp : ℤ) (o : Option Position) → IfSome o IsHeld → IfSome (option_map (with_stops sl tp) o) IsHeld
stops_held sl tp None h = tt
stops_held sl tp (Some p) h = record { some = h.some; volume = h.volume; price = h.price; swap = h.swap }

swap_held : (amount : ℤ) (o : Option Position) → IfSome o IsHeld → IfSome o (λ p. FitsSigned w128 (p.swap +ℤ amount)) → IfSome (option_map (with_swap amount) o) IsHeld
swap_held amount None h f = tt
swap_held amount (Some p) h f = record { some = h.some; volume = h.volume; price = h.price; swap = f }

pub held_after : (ps : List Position) (e : Event) → All IsHeld ps → KeepsTypes ps e → All IsHeld (positions_after ps e)
held_after ps (Added d) h k =
    (elim (is_balance d.kind) as (λ b. MatchBool b ⊤ (MayDeal d (item position_ticket d.position ps)) → All IsHeld (cond b ps (put position_ticket d.position (after_deal d (item position_ticket d.position ps)) ps))) [
      | true ↦ λ m. h
      | false ↦ λ m. all_put IsHeld position_ticket d.position _ ps h m.1
    ]) k
held_after ps (Stops t sl tp) h k = all_put IsHeld position_ticket t _ ps h (stops_held sl tp (item position_ticket t ps) (all_item IsHeld position_ticket t ps h))
held_after ps (Swap t amount) h k = all_put IsHeld position_ticket t _ ps h (swap_held amount (item position_ticket t ps) (all_item IsHeld position_ticket t ps h) k)
held_after ps (Placed o) h k = h
held_after ps (Modified o) h k = h
held_after ps (Removed t cause) h k = h
held_after ps (Triggered t) h k = h

held_more : (es new : List Event) (e : Event) → new ≡ es ++ e ∷ [] → All IsHeld (open_positions es) → KeepsTypes (open_positions es) e → All IsHeld (open_positions new)
held_more es new e n h k = subst (λ (ps : List Position). All IsHeld ps) (sym (open_more es e) ∙ ap (λ (xs : List Event). open_positions xs) (sym n)) (held_after (open_positions es) e h k)

-- no position binds nothing
none_below : (specs : List SymbolSpec) (leverage n : ℕ) → total_below (symbol_margin specs leverage []) n ≡ pos 0
unfolding greater
none_below specs leverage zero = refl
none_below specs leverage (suc n) = rw (none_below specs leverage n) refl

pub margin_of_none : (hedging : Bool) (specs : List SymbolSpec) (leverage : ℕ) → FitsSigned w128 (margin_by hedging specs leverage [])
margin_of_none true specs leverage = rw (none_below specs leverage (length specs)) (omega (arith, ints))
margin_of_none false specs leverage = omega (arith, ints)

-- after a deal
pub books_more : (spec : AccountSpec) (old new : Books) (d : Deal) → IsBooks spec old → length (deals old.events.items) < 50000 → new.events.items ≡ old.events.items ++ Added d ∷ [] → new.deals ≡ old.deals ++ d ∷ [] → new.positions.items ≡ positions_after old.positions.items (Added d) → new.totals ≡ totals_after old.totals d → KeepsTypes (open_positions old.events.items) (Added d) → IsWithin spec (old.events.items ++ Added d ∷ []) → IsBooks spec new
books_more spec old new d b few e l p t k w =
    let ds : deals new.events.items ≡ deals old.events.items ++ d ∷ [] = ap (λ (es : List Event). deals es) e ∙ deals_more old.events.items (Added d) in
    let n : length (deals old.events.items ++ d ∷ []) ≡ length (deals old.events.items) + 1 = length-more (deals old.events.items) d in
    record {
      listed = l ∙ ap (λ (xs : List Deal). xs ++ d ∷ []) b.listed ∙ sym ds;
      held = p ∙ ap (λ (ps : List Position). positions_after ps (Added d)) b.held ∙ sym (open_more old.events.items (Added d)) ∙ ap (λ (es : List Event). open_positions es) (sym e);
      summed = t ∙ ap (λ (x : Totals). totals_after x d) b.summed ∙ sym (totals-more spec.deposit (trading_deals old.events.items) d)
          ∙ ap (λ (xs : List Deal). totals_of spec.deposit xs) (sym (trading_more spec old.events.items d b.first)) ∙ ap (λ (es : List Event). totals_of spec.deposit (trading_deals es)) (sym e);
      first = ap (λ (xs : List Deal). take 1 xs) ds ∙ still_first (deals old.events.items) (deposit_deal spec) d b.first;
      few = rw ds (rw n (omega (arith, few)));
      each_held = held_more old.events.items new.events.items (Added d) e b.each_held k;
      margin_fits = subst (λ (es : List Event). FitsSigned w128 (margin_of spec es)) (sym e) w.margin;
    }

no_deal : (es : List Event) (e : Event) → deal_of e ≡ None → deals (es ++ e ∷ []) ≡ deals es
no_deal es e h = deals_more es e ∙ ap (λ (o : Option Deal). deals es ++ cons_option o []) h ∙ append-nil (deals es)

-- after another event
pub books_same : (spec : AccountSpec) (old new : Books) (e : Event) → IsBooks spec old → deal_of e ≡ None → new.events.items ≡ old.events.items ++ e ∷ [] → new.deals ≡ old.deals → new.positions.items ≡ positions_after old.positions.items e → new.totals ≡ old.totals → KeepsTypes (open_positions old.events.items) e → IsWithin spec (old.events.items ++ e ∷ []) → IsBooks spec new
books_same spec old new e b none ev l p t k w =
    let ds : deals new.events.items ≡ deals old.events.items = ap (λ (es : List Event). deals es) ev ∙ no_deal old.events.items e none in
    record {
      listed = l ∙ b.listed ∙ sym ds;
      held = p ∙ ap (λ (ps : List Position). positions_after ps e) b.held ∙ sym (open_more old.events.items e) ∙ ap (λ (es : List Event). open_positions es) (sym ev);
      summed = t ∙ b.summed ∙ ap (λ (xs : List Deal). totals_of spec.deposit (drop 1 xs)) (sym ds);
      first = ap (λ (xs : List Deal). take 1 xs) ds ∙ b.first;
      few = rw ds b.few;
      each_held = held_more old.events.items new.events.items e ev b.each_held k;
      margin_fits = subst (λ (es : List Event). FitsSigned w128 (margin_of spec es)) (sym ev) w.margin;
    }

net_of_deposit : (spec : AccountSpec) → net (deposit_deal spec) ≡ spec.deposit
unfolding net
net_of_deposit spec = omega (arith, ints)

split : (ds : List Deal) (x : Deal) → take 1 ds ≡ x ∷ [] → total net ds ≡ net x +ℤ total net (drop 1 ds)
split [] x h = cc
split (y ∷ ds) x h = let e : y ≡ x = grind rules in ap (λ (z : Deal). net z +ℤ total net ds) e

-- the balance is where the path of the balance stands
pub balance_is : (spec : AccountSpec) (es : List Event) → take 1 (deals es) ≡ deposit_deal spec ∷ [] → (balance_path spec.deposit (trading_deals es)).now ≡ balance es
balance_is spec es f =
    balance-now spec.deposit (trading_deals es)
    ∙ ap (λ z. z +ℤ total net (trading_deals es)) (sym (net_of_deposit spec))
    ∙ sym (split (deals es) (deposit_deal spec) f)

few_of : (p : Deal → Bool) (ds : List Deal) → length (filter p ds) ≤ length ds
few_of p [] = omega arith
few_of p (d ∷ ds) = let h : length (filter p ds) ≤ length ds = few_of p ds in elim (p d) as (λ b. length (cond b (d ∷ filter p ds) (filter p ds)) ≤ suc (length ds)) [ true ↦ omega (arith, h) | false ↦ omega (arith, h) ]

behind_few : (ds : List Deal) → length (drop 1 ds) ≤ length ds
behind_few [] = omega arith
behind_few (d ∷ ds) = omega arith

-- what fits with the event fits in the totals
fits_after : (spec : AccountSpec) (ds : List Deal) (d : Deal) → length ds < 2 ^ 31 → FitsSigned w128 (balance_path spec.deposit (ds ++ d ∷ [])).now → FitsSigned w128 (balance_path spec.deposit (ds ++ d ∷ [])).fall → FitsSigned w128 (total net (ds ++ d ∷ [])) → FitsSigned w128 (total gain (ds ++ d ∷ [])) → FitsSigned w128 (total loss (ds ++ d ∷ [])) → FitsAfter (totals_of spec.deposit ds) d
fits_after spec ds d n b f p g l =
    let m : totals_of spec.deposit (ds ++ d ∷ []) ≡ totals_after (totals_of spec.deposit ds) d = totals-more spec.deposit ds d in
    let g' : FitsSigned w128 (total gain ds +ℤ gain d) = subst (λ (t : Totals). FitsSigned w128 t.stats.gross_profit) m g in
    let l' : FitsSigned w128 (total loss ds +ℤ loss d) = subst (λ (t : Totals). FitsSigned w128 t.stats.gross_loss) m l in
    record {
      one = net-fits ds d g' l';
      balance = subst (λ (t : Totals). FitsSigned w128 t.balance) m b;
      fall = fall-fits (balance_path spec.deposit ds).fall (balance_path spec.deposit ds).highest ((balance_path spec.deposit ds).now +ℤ net d) (subst (λ (t : Totals). FitsSigned w128 t.stats.balance_dd) m f);
      profit = subst (λ (t : Totals). FitsSigned w128 t.stats.profit) m p;
      gross_profit = g';
      gross_loss = l';
      deals = n;
      trades = let k : length (filter is_trade ds) ≤ length ds = few_of is_trade ds in omega (arith, k, n);
      profit_trades = let k : length (filter is_profit_trade ds) ≤ length ds = few_of is_profit_trade ds in omega (arith, k, n);
      loss_trades = let k : length (filter is_loss_trade ds) ≤ length ds = few_of is_loss_trade ds in omega (arith, k, n);
    }

pub fits : (spec : AccountSpec) (b : Books) (d : Deal) → IsBooks spec b → length (deals b.events.items) < 50000 → IsWithin spec (b.events.items ++ Added d ∷ []) → FitsAfter b.totals d
fits spec b d h few w =
    let t : trading_deals (b.events.items ++ Added d ∷ []) ≡ trading_deals b.events.items ++ d ∷ [] = trading_more spec b.events.items d h.first in
    let ds : deals (b.events.items ++ Added d ∷ []) ≡ deals b.events.items ++ d ∷ [] = deals_more b.events.items (Added d) in
    let f : take 1 (deals (b.events.items ++ Added d ∷ [])) ≡ deposit_deal spec ∷ [] = ap (λ (xs : List Deal). take 1 xs) ds ∙ still_first (deals b.events.items) (deposit_deal spec) d h.first in
    let n : length (trading_deals b.events.items) < 2 ^ 31 = let k : length (trading_deals b.events.items) ≤ length (deals b.events.items) = behind_few (deals b.events.items) in omega (arith, k, few) in
    subst (λ (x : Totals). FitsAfter x d) (sym h.summed)
    (fits_after spec (trading_deals b.events.items) d n
    (subst (λ (xs : List Deal). FitsSigned w128 (balance_path spec.deposit xs).now) t (subst (λ z. FitsSigned w128 z) (sym (balance_is spec (b.events.items ++ Added d ∷ []) f)) w.balance))
    (subst (λ (xs : List Deal). FitsSigned w128 (balance_path spec.deposit xs).fall) t w.balance_dd)
    (subst (λ (xs : List Deal). FitsSigned w128 (total net xs)) t w.profit)
    (subst (λ (xs : List Deal). FitsSigned w128 (total gain xs)) t w.gross_profit)
    (subst (λ (xs : List Deal). FitsSigned w128 (total loss xs)) t w.gross_loss))

pub not_full : (es : List Event) (e : Event) → deal_of e ≡ None → is_full es e ≡ false
unfolding is_full
not_full es e h = rw h refl

-- the balance that is kept is that of the events, and the deposit with all profits, swaps and commissions
pub balance_kept : (spec : AccountSpec) (b : Books) → IsBooks spec b → b.totals.balance ≡ balance b.events.items
balance_kept spec b h = ap (λ (t : Totals). t.balance) h.summed ∙ balance_is spec b.events.items h.first

pub balance_sums : (spec : AccountSpec) (b : Books) → IsBooks spec b → b.totals.balance ≡ spec.deposit +ℤ (total profit_of (trading_deals b.events.items) +ℤ total swap_of (trading_deals b.events.items) +ℤ total commission_of (trading_deals b.events.items))
balance_sums spec b h = ap (λ (t : Totals). t.balance) h.summed ∙ balance-now spec.deposit (trading_deals b.events.items) ∙ ap (λ z. spec.deposit +ℤ z) (sums (trading_deals b.events.items))

-- what is kept of open positions
pub few_held : (spec : AccountSpec) (b : Books) → IsBooks spec b → length b.positions.items ≤ 65536
few_held spec b h = rw h.held (let n : length (open_positions b.events.items) ≤ length (deals b.events.items) = few_open b.events.items in omega (arith, n, h.few))

pub all_held : (spec : AccountSpec) (b : Books) → IsBooks spec b → All IsHeld b.positions.items
all_held spec b h = subst (λ (ps : List Position). All IsHeld ps) (sym h.held) h.each_held

all_float : (specs : List SymbolSpec) (prices : PriceList) (ps : List Position) → All IsHeld ps → All (HasPrices prices) ps → All (λ p. FitsSigned w128 (floating specs prices p)) ps → All (Floats specs prices) ps
all_float specs prices ps h p f = λ k d n. record { held = h k d n; priced = p k d n; fits = f k d n }

pub floats : (spec : AccountSpec) (prices : PriceList) (b : Books) → IsBooks spec b → IsPriced spec prices b.events.items → All (Floats spec.specs prices) b.positions.items
floats spec prices b h p = subst (λ (ps : List Position). All (Floats spec.specs prices) ps) (sym h.held) (all_float spec.specs prices (open_positions b.events.items) h.each_held p.priced p.floating)
