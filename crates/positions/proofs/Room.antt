-- What a fill leaves can be counted.
use Rattle.std.proofs.Common.{◌≡◌, ◌∙◌, ℕ, suc, zero, ◌+◌, ◌*◌, ◌^◌, ◌<◌, ◌≤◌, ◌++◌, Bool, true, false, not, cond, eqb, List, [], ◌∷◌, length, filter, fold, slice_get, Option, Some, None, Result, Ok, Err, ℤ, pos, neg_ℤ, ◌+ℤ◌, ◌-ℤ◌, ◌*ℤ◌, ◌≤ℤ◌, ◌<ℤ◌, int_lt, unsigned_abs, FitsSigned, refl, ap, sym, subst, arith, is_some}
use Rattle.std.specs.Prelude.{IfSome, MatchBool, unwrap_or, ◌&&◌}
use Rattle.std.specs.Ordering.{int_eq}
use Rattle.std.specs.Int.{w64, w128}
use Rattle.std.specs.List.{All, cons_option}
use Rattle.std.specs.Option.{option_map}
use Rattle.std.proofs.lemmas.Int.{ints, fits_signed_from_abs}
use Rattle.std.proofs.lemmas.List.Elements.{All-tail, All-filter, All-nil, All-cons, filter_map-append}
use Rattle.std.proofs.lemmas.List.Sums.{fold-append}
use Rattle.market_types.specs.Ranges.{IsSpec}
use Rattle.market_types.specs.declared.symbol_spec.SymbolSpec.{SymbolSpec}
use Rattle.account.specs.declared.account_spec.AccountSpec.{AccountSpec}
use Rattle.account.specs.declared.deal.Deal.{Deal}
use Rattle.account.specs.declared.deal.DealEntry.TheVariants as entry
use Rattle.account.specs.declared.position.Position.{Position}
use Rattle.account.specs.declared.event.Event.{Event}
use Rattle.account.specs.declared.event.Event.TheVariants.{Placed, Modified, Removed, Triggered, Added, Stops, Swap}
use Rattle.account.specs.Keyed.{item, put, Rising}
use Rattle.account.specs.Deals.{total, net, deal_of, deals, balance}
use Rattle.account.specs.Doubles.{IsPair, AreDoubles}
use Rattle.account.specs.Money.{profit}
use Rattle.account.specs.Positions.{position_ticket, positions_after, open_positions, same_side, is_buy, is_balance, opened, added, reduced, reversed, dealt, after_deal, with_stops}
use Rattle.account.specs.Ranges.{IsAccount, IsHeld, MayDeal, HasPrices, Floats, KeepsTypes}
use Rattle.account.specs.Statistics.{greater}
use Rattle.account.specs.StopOut.{PriceList, prices_at, closing_price, contract_of, floating, equity_of, equity, position_margin, is_on, side_margin, symbol_margin, total_below, margin_by, margin_of}
use Rattle.account.proofs.Bounds.{margin_most, total_le, sum_le, filter_few, few_fit, contract_most}
use Rattle.account.proofs.Conserved.{total-append}
use Rattle.account.proofs.Found.{all_put, all_item}
use Rattle.positions.specs.declared.fill.Fill.{Fill}
use Rattle.positions.specs.declared.fill.FillFault.{FillFault}
use Rattle.positions.specs.declared.fill.Levels.{Levels}
use Rattle.positions.specs.Acts.{IsOpen}
use Rattle.positions.specs.Fills.{kind_of, plain, closed, swap_paid, deal_on, levels_of, stops_event, events_on, met, refusal, filled_or, filled, IsFill, MayAdd}
use Rattle.positions.specs.Money.{has_money, added_by, net_or_none, event_net, IsRoomy, HasRoom, IsCountable}
use Rattle.positions.proofs.Filling.{met_item, deal_kind, may_deal, not_balance}
use Rattle.positions.proofs.Filled.{met_held}
use Rattle.positions.proofs.Lengths.{dealt_length, changed_length}
use Rattle.positions.proofs.Nets.{IsPart, IsSmall, swap_part, deal_small, profit_le}

-- a position whose worth is small, where its symbol has prices
pub record IsLight (prices : PriceList) (p : Position) : Type 0 where
  pub held : IsHeld p
  pub priced : HasPrices prices p
  pub swap : unsigned_abs p.swap ≤ 2 ^ 100

-- both prices of a symbol are doubles, 0 where it has none
pair_at : (prices : PriceList) (symbol : ℕ) → All IsPair prices → AreDoubles (unwrap_or (prices_at prices symbol) (pos 0, pos 0))
pair_at [] symbol h = (omega (arith, ints), omega (arith, ints))
pair_at (None ∷ prices) zero h = (omega (arith, ints), omega (arith, ints))
pair_at (Some pair ∷ prices) zero h = h zero (Some pair) (omega arith)
pair_at (o ∷ prices) (suc n) h = pair_at prices n (All-tail IsPair o prices h)

closing_fits : (buy : Bool) (pair : ℤ × ℤ) → AreDoubles pair → FitsSigned w64 (closing_price buy pair)
closing_fits true pair h = h.0
closing_fits false pair h = h.1

floating_le : (specs : List SymbolSpec) (prices : PriceList) (p : Position) → All IsSpec specs → All IsPair prices → IsLight prices p → unsigned_abs (floating specs prices p) ≤ 2 ^ 102
unfolding floating
floating_le specs prices p h q l =
    let pair : ℤ × ℤ = unwrap_or (prices_at prices p.symbol) (pos 0, pos 0) in
    let g : unsigned_abs (profit p.buy p.price (closing_price p.buy pair) (contract_of specs p.symbol) p.volume) ≤ 2 ^ 101 = profit_le p.buy p.price (closing_price p.buy pair) (contract_of specs p.symbol) p.volume l.held.price (closing_fits p.buy pair (pair_at prices p.symbol q)) (contract_most specs p.symbol h) l.held.volume in
    let s : unsigned_abs (profit p.buy p.price (closing_price p.buy pair) (contract_of specs p.symbol) p.volume +ℤ p.swap) ≤ unsigned_abs (profit p.buy p.price (closing_price p.buy pair) (contract_of specs p.symbol) p.volume) + unsigned_abs p.swap = sum_le (profit p.buy p.price (closing_price p.buy pair) (contract_of specs p.symbol) p.volume) p.swap in
    omega (arith, g, s, l.swap)

light_floats : (specs : List SymbolSpec) (prices : PriceList) (p : Position) → All IsSpec specs → All IsPair prices → IsLight prices p → Floats specs prices p
light_floats specs prices p h q l =
    let f : unsigned_abs (floating specs prices p) ≤ 2 ^ 102 = floating_le specs prices p h q l in
    record { held = l.held; priced = l.priced; fits = fits_signed_from_abs w128 _ (omega (arith, f)) }

greater_le : (x y : ℤ) (a : ℕ) → unsigned_abs x ≤ a → unsigned_abs y ≤ a → unsigned_abs (greater x y) ≤ a
unfolding greater
greater_le x y a h k = grind arith

-- the margin of each symbol, and of all of them
below_le : (f : ℕ → ℤ) (m n : ℕ) → ((k : ℕ) → unsigned_abs (f k) ≤ m) → unsigned_abs (total_below f n) ≤ n * m
below_le f m zero h = omega arith
below_le f m (suc n) h =
    let r : unsigned_abs (total_below f n) ≤ n * m = below_le f m n h in
    let s : unsigned_abs (total_below f n +ℤ f n) ≤ unsigned_abs (total_below f n) + unsigned_abs (f n) = sum_le (total_below f n) (f n) in
    let o : unsigned_abs (f n) ≤ m = h n in
    let e : suc n * m ≡ m + n * m = grind arith in
    omega (arith, r, s, o, e)

side_le : (spec : AccountSpec) (ps : List Position) (buy : Bool) (s : ℕ) → IsAccount spec → All IsHeld ps → length ps ≤ 65536 → unsigned_abs (side_margin spec.specs spec.leverage ps buy s) ≤ 65536 * 2 ^ 100
side_le spec ps buy s a h n =
    let f : length (filter (is_on s buy) ps) ≤ length ps = filter_few (is_on s buy) ps in
    let t : unsigned_abs (side_margin spec.specs spec.leverage ps buy s) ≤ length (filter (is_on s buy) ps) * 2 ^ 100 = total_le (position_margin spec.specs spec.leverage) (2 ^ 100) (filter (is_on s buy) ps) (λ i p e. margin_most spec.specs spec.leverage _ a.specs a.leverage_from (All-filter (is_on s buy) IsHeld ps h i p e)) in
    omega (arith, f, t, n)

symbol_le : (spec : AccountSpec) (ps : List Position) (s : ℕ) → IsAccount spec → All IsHeld ps → length ps ≤ 65536 → unsigned_abs (symbol_margin spec.specs spec.leverage ps s) ≤ 65536 * 2 ^ 100
symbol_le spec ps s a h n = greater_le (side_margin spec.specs spec.leverage ps true s) (side_margin spec.specs spec.leverage ps false s) (65536 * 2 ^ 100) (side_le spec ps true s a h n) (side_le spec ps false s a h n)

-- what few positions bind fits, under both kinds of account
pub margin_fits : (hedging : Bool) (spec : AccountSpec) (ps : List Position) → IsAccount spec → All IsHeld ps → length ps ≤ 65536 → length spec.specs ≤ 255 → FitsSigned w128 (margin_by hedging spec.specs spec.leverage ps)
margin_fits false spec ps a h n k = few_fit spec.specs spec.leverage ps a.specs a.leverage_from h n
margin_fits true spec ps a h n k =
    let t : unsigned_abs (total_below (symbol_margin spec.specs spec.leverage ps) (length spec.specs)) ≤ length spec.specs * (65536 * 2 ^ 100) = below_le (symbol_margin spec.specs spec.leverage ps) (65536 * 2 ^ 100) (length spec.specs) (λ s. symbol_le spec ps s a h n) in
    fits_signed_from_abs w128 _ (omega (arith, t, k))

-- light positions, and what is added to a balance, can be counted
pub light_counted : (spec : AccountSpec) (prices : PriceList) (b : ℤ) (ps : List Position) (es : List Event) → IsAccount spec → All IsPair prices → length spec.specs ≤ 255 → All (IsLight prices) ps → length ps ≤ 65536 → unsigned_abs b ≤ 2 ^ 120 → All (λ e. FitsSigned w128 (event_net e)) es → unsigned_abs (total event_net es) ≤ 2 ^ 102 → IsCountable spec prices b ps es
light_counted spec prices b ps es a q k l n hb nets t =
    let held : All IsHeld ps = λ i p e. (l i p e).held in
    let each : All (λ (p : Position). unsigned_abs (floating spec.specs prices p) ≤ 2 ^ 102) ps = λ i p e. floating_le spec.specs prices _ a.specs q (l i p e) in
    let all : unsigned_abs (total (floating spec.specs prices) ps) ≤ length ps * 2 ^ 102 = total_le (floating spec.specs prices) (2 ^ 102) ps each in
    let s : unsigned_abs (b +ℤ total event_net es) ≤ unsigned_abs b + unsigned_abs (total event_net es) = sum_le b (total event_net es) in
    let w : unsigned_abs (b +ℤ total event_net es +ℤ total (floating spec.specs prices) ps) ≤ unsigned_abs (b +ℤ total event_net es) + unsigned_abs (total (floating spec.specs prices) ps) = sum_le (b +ℤ total event_net es) (total (floating spec.specs prices) ps) in
    record {
      held = held;
      few = n;
      floats = λ i p e. light_floats spec.specs prices _ a.specs q (l i p e);
      nets = nets;
      margin = margin_fits spec.hedging spec ps a held n k;
      with_nets = fits_signed_from_abs w128 _ (omega (arith, s, hb, t));
      worth = fits_signed_from_abs w128 _ (omega (arith, w, s, hb, t, all, n));
    }

buy_of : (b : Bool) → is_buy (kind_of b) ≡ b
buy_of true = refl
buy_of false = refl

reduced_light : (specs : List SymbolSpec) (prices : PriceList) (f : Fill) (p : Position) → pos 0 <ℤ f.volume → IsLight prices p → IsHeld (reduced (closed specs f p) p) → IsLight prices (reduced (closed specs f p) p)
reduced_light specs prices f p s l h = record { held = h; priced = l.priced; swap = let w : IsPart p.swap (swap_paid f p) = swap_part f p s in omega (arith, w.left, l.swap) }

reversed_light : (specs : List SymbolSpec) (prices : PriceList) (f : Fill) (p : Position) → pos 0 <ℤ f.volume → IsLight prices p → IsHeld (reversed (closed specs f p) p) → IsLight prices (reversed (closed specs f p) p)
reversed_light specs prices f p s l h = record { held = h; priced = l.priced; swap = let w : IsPart p.swap (swap_paid f p) = swap_part f p s in omega (arith, w.left, l.swap) }

added_light : (specs : List SymbolSpec) (prices : PriceList) (f : Fill) (p : Position) → IsLight prices p → IsHeld (added (plain specs f p.ticket entry.In) p) → IsLight prices (added (plain specs f p.ticket entry.In) p)
added_light specs prices f p l h = record { held = h; priced = l.priced; swap = omega (arith, ints, l.swap) }

-- what the deal of a fill leaves is light
left_light : (specs : List SymbolSpec) (prices : PriceList) (f : Fill) (o : Option Position) → pos 0 <ℤ f.volume → is_some (prices_at prices f.symbol) ≡ true → IfSome o (IsLight prices) → IfSome (after_deal (deal_on specs f o) o) IsHeld → IfSome (after_deal (deal_on specs f o) o) (IsLight prices)
left_light specs prices f None s q l h = record { held = h; priced = q; swap = omega (arith, ints) }
left_light specs prices f (Some p) s q l h =
    (elim (same_side p.buy f.buy) as (λ b. same_side p.buy f.buy ≡ b → IfSome (dealt (cond b (plain specs f p.ticket entry.In) (closed specs f p)) p) IsHeld → IfSome (dealt (cond b (plain specs f p.ticket entry.In) (closed specs f p)) p) (IsLight prices)) [
      | true ↦ λ e. let side : same_side p.buy (is_buy (kind_of f.buy)) ≡ true = ap (λ (x : Bool). same_side p.buy x) (buy_of f.buy) ∙ e in rw side (λ g. added_light specs prices f p l g)
      | false ↦ λ e. let side : same_side p.buy (is_buy (kind_of f.buy)) ≡ false = ap (λ (x : Bool). same_side p.buy x) (buy_of f.buy) ∙ e in rw side (
          elim (int_lt f.volume p.volume) as (λ c. IfSome (cond c (Some (reduced (closed specs f p) p)) (cond (int_lt p.volume f.volume) (Some (reversed (closed specs f p) p)) None)) IsHeld → IfSome (cond c (Some (reduced (closed specs f p) p)) (cond (int_lt p.volume f.volume) (Some (reversed (closed specs f p) p)) None)) (IsLight prices)) [
            | true ↦ λ g. reduced_light specs prices f p s l g
            | false ↦ elim (int_lt p.volume f.volume) as (λ d. IfSome (cond d (Some (reversed (closed specs f p) p)) None) IsHeld → IfSome (cond d (Some (reversed (closed specs f p) p)) None) (IsLight prices)) [
              | true ↦ λ g. reversed_light specs prices f p s l g
              | false ↦ λ g. tt
            ]
          ])
    ]) refl h

light_deal : (prices : PriceList) (ps : List Position) (d : Deal) → All (IsLight prices) ps → IfSome (after_deal d (item position_ticket d.position ps)) (IsLight prices) → All (IsLight prices) (positions_after ps (Added d))
light_deal prices ps d l h =
    elim (is_balance d.kind) as (λ b. All (IsLight prices) (cond b ps (put position_ticket d.position (after_deal d (item position_ticket d.position ps)) ps))) [
      | true ↦ l
      | false ↦ all_put (IsLight prices) position_ticket d.position (after_deal d (item position_ticket d.position ps)) ps l h
    ]

stopped_light : (prices : PriceList) (sl tp : ℤ) (o : Option Position) → IfSome o (IsLight prices) → IfSome (option_map (with_stops sl tp) o) (IsLight prices)
stopped_light prices sl tp None h = tt
stopped_light prices sl tp (Some p) h = record { held = record { some = h.held.some; volume = h.held.volume; price = h.held.price; swap = h.held.swap }; priced = h.priced; swap = h.swap }

-- a change of stops keeps it light, adds no position and nothing to the balance
light_stops : (prices : PriceList) (ps : List Position) (o : Option Position) (l : Levels) → All (IsLight prices) ps → All (IsLight prices) (fold positions_after ps (stops_event o l))
light_stops prices ps None l h = h
light_stops prices ps (Some q) l h =
    elim (int_eq q.sl l.sl && int_eq q.tp l.tp) as (λ b. All (IsLight prices) (fold positions_after ps (cond b [] (Stops q.ticket l.sl l.tp ∷ [])))) [
      | true ↦ h
      | false ↦ all_put (IsLight prices) position_ticket q.ticket (option_map (with_stops l.sl l.tp) (item position_ticket q.ticket ps)) ps h (stopped_light prices l.sl l.tp (item position_ticket q.ticket ps) (all_item (IsLight prices) position_ticket q.ticket ps h))
    ]

few_stops : (ps : List Position) (o : Option Position) (l : Levels) → length (fold positions_after ps (stops_event o l)) ≤ length ps
few_stops ps None l = omega arith
few_stops ps (Some q) l =
    elim (int_eq q.sl l.sl && int_eq q.tp l.tp) as (λ b. length (fold positions_after ps (cond b [] (Stops q.ticket l.sl l.tp ∷ []))) ≤ length ps) [
      | true ↦ omega arith
      | false ↦ changed_length q.ticket (with_stops l.sl l.tp) ps
    ]

stops_net : (o : Option Position) (l : Levels) → total event_net (stops_event o l) ≡ pos 0
stops_net None l = refl
stops_net (Some q) l =
    elim (int_eq q.sl l.sl && int_eq q.tp l.tp) as (λ b. total event_net (cond b [] (Stops q.ticket l.sl l.tp ∷ [])) ≡ pos 0) [
      | true ↦ refl
      | false ↦ refl
    ]

abbrev Nets : List Event → Type 0
Nets es = All (λ e. FitsSigned w128 (event_net e)) es

stops_nets : (o : Option Position) (l : Levels) → Nets (stops_event o l)
stops_nets None l = All-nil (λ e. FitsSigned w128 (event_net e))
stops_nets (Some q) l =
    elim (int_eq q.sl l.sl && int_eq q.tp l.tp) as (λ b. Nets (cond b [] (Stops q.ticket l.sl l.tp ∷ []))) [
      | true ↦ All-nil (λ e. FitsSigned w128 (event_net e))
      | false ↦ All-cons (λ e. FitsSigned w128 (event_net e)) (Stops q.ticket l.sl l.tp) [] (omega (arith, ints)) (All-nil (λ e. FitsSigned w128 (event_net e)))
    ]

-- what holds of each position holds of the one that a fill meets
met_has : (P : Position → Type 0) (hedging : Bool) (specs : List SymbolSpec) (f : Fill) (ps : List Position) → IsOpen ps → All P ps → (met hedging ps f ≡ None → item position_ticket f.order ps ≡ None) → IfSome (met hedging ps f) P
met_has P hedging specs f ps o h fresh = subst (λ (x : Option Position). IfSome x P) (met_item hedging specs ps f o.rising fresh) (all_item P position_ticket (deal_on specs f (met hedging ps f)).position ps h)

pub may_add : (prices : PriceList) (f : Fill) (o : Option Position) → pos 0 <ℤ f.volume → f.volume ≤ℤ pos (2 ^ 61) → IfSome o IsHeld → IfSome o (IsRoomy prices) → MayAdd f o
may_add prices f None s v h r = tt
may_add prices f (Some p) s v h r = λ e. omega (arith, ints, s, v, h.some, r.volume)

swap_of : (prices : PriceList) (o : Option Position) → IfSome o (IsLight prices) → IfSome o (λ p. unsigned_abs p.swap ≤ 2 ^ 100)
swap_of prices None h = tt
swap_of prices (Some p) h = h.swap

-- the events of a fill can be counted
events_counted : (spec : AccountSpec) (prices : PriceList) (b : ℤ) (ps : List Position) (f : Fill) (o : Option Position) → IsAccount spec → All IsPair prices → length spec.specs ≤ 255 → All (IsLight prices) ps → length ps ≤ 50000 → unsigned_abs b ≤ 2 ^ 120 → pos 0 <ℤ f.volume → FitsSigned w64 f.volume → FitsSigned w64 f.price → is_some (prices_at prices f.symbol) ≡ true → item position_ticket (deal_on spec.specs f o).position ps ≡ o → IfSome o (IsLight prices) → IfSome o IsHeld → MayAdd f o → IsCountable spec prices b (fold positions_after ps (events_on spec.specs f o)) (events_on spec.specs f o)
events_counted spec prices b ps f o a q k l n hb s v g priced at lo ho m =
    let d : Deal = deal_on spec.specs f o in
    let left : IfSome (after_deal d o) (IsLight prices) = left_light spec.specs prices f o s priced lo (may_deal spec.specs f o s v g ho m).1 in
    let dealt : All (IsLight prices) (positions_after ps (Added d)) = light_deal prices ps d l (subst (λ (x : Option Position). IfSome (after_deal d x) (IsLight prices)) (sym at) left) in
    let small : IsSmall d = deal_small spec.specs f o a.specs s v g ho (swap_of prices o lo) in
    let more : length (positions_after ps (Added d)) ≤ length ps + 1 = dealt_length ps d in
    let few : length (fold positions_after (positions_after ps (Added d)) (stops_event (after_deal d o) (levels_of f o))) ≤ length (positions_after ps (Added d)) = few_stops (positions_after ps (Added d)) (after_deal d o) (levels_of f o) in
    let none : total event_net (stops_event (after_deal d o) (levels_of f o)) ≡ pos 0 = stops_net (after_deal d o) (levels_of f o) in
    let whole : total event_net (events_on spec.specs f o) ≡ net d +ℤ pos 0 = ap (λ (z : ℤ). net d +ℤ z) none in
    let same : net d +ℤ pos 0 ≡ net d = omega (arith, ints) in
    light_counted spec prices b (fold positions_after (positions_after ps (Added d)) (stops_event (after_deal d o) (levels_of f o))) (events_on spec.specs f o) a q k
    (light_stops prices (positions_after ps (Added d)) (after_deal d o) (levels_of f o) dealt)
    (omega (arith, n, more, few)) hb
    (All-cons (λ e. FitsSigned w128 (event_net e)) (Added d) (stops_event (after_deal d o) (levels_of f o)) (fits_signed_from_abs w128 _ (omega (arith, small))) (stops_nets (after_deal d o) (levels_of f o)))
    (subst (λ (z : ℤ). unsigned_abs z ≤ 2 ^ 102) (sym (whole ∙ same)) small)

light_of : (prices : PriceList) (ps : List Position) → All IsHeld ps → All (IsRoomy prices) ps → All (IsLight prices) ps
light_of prices ps h r = λ i p e. record { held = h i p e; priced = (r i p e).priced; swap = (r i p e).swap }

-- what a fill adds, and the positions that it leaves, can be counted
pub fill_counted : (spec : AccountSpec) (prices : PriceList) (es : List Event) (f : Fill) → IsAccount spec → All IsPair prices → HasRoom spec prices es → IsOpen (open_positions es) → length (open_positions es) ≤ 50000 → IsFill spec.hedging spec.specs (open_positions es) f → f.volume ≤ℤ pos (2 ^ 61) → FitsSigned w64 f.volume → FitsSigned w64 f.price → is_some (prices_at prices f.symbol) ≡ true → IsCountable spec prices (balance es) (fold positions_after (open_positions es) (added_by (filled spec.hedging spec.specs (open_positions es) f))) (added_by (filled spec.hedging spec.specs (open_positions es) f))
fill_counted spec prices es f a q r o n i most v g priced =
    let ps : List Position = open_positions es in
    let on : Option Position = met spec.hedging (open_positions es) f in
    let light : All (IsLight prices) (open_positions es) = light_of prices (open_positions es) o.held r.positions in
    let held : IfSome (met spec.hedging (open_positions es) f) IsHeld = met_has IsHeld spec.hedging spec.specs f (open_positions es) o o.held i.fresh in
    let room : IfSome (met spec.hedging (open_positions es) f) (IsRoomy prices) = met_has (IsRoomy prices) spec.hedging spec.specs f (open_positions es) o r.positions i.fresh in
    elim (refusal spec.hedging (open_positions es) f) as (λ x. IsCountable spec prices (balance es) (fold positions_after (open_positions es) (added_by (filled_or x (events_on spec.specs f (met spec.hedging (open_positions es) f))))) (added_by (filled_or x (events_on spec.specs f (met spec.hedging (open_positions es) f))))) [
      | None ↦ events_counted spec prices (balance es) (open_positions es) f (met spec.hedging (open_positions es) f) a q r.symbols light n r.balance i.some v g priced
          (met_item spec.hedging spec.specs (open_positions es) f o.rising i.fresh)
          (met_has (IsLight prices) spec.hedging spec.specs f (open_positions es) o light i.fresh) held
          (may_add prices f (met spec.hedging (open_positions es) f) i.some most held room)
      | Some e ↦ light_counted spec prices (balance es) (open_positions es) [] a q r.symbols light (omega (arith, n)) r.balance (All-nil (λ e. FitsSigned w128 (event_net e))) (omega arith)
    ]

-- the journal with more events
pub open_with : (es more : List Event) → open_positions (es ++ more) ≡ fold positions_after (open_positions es) more
open_with es more = fold-append positions_after [] es more

nets_of : (es : List Event) → total event_net es ≡ total net (deals es)
nets_of [] = refl
nets_of (Added d ∷ es) = ap (λ (z : ℤ). net d +ℤ z) (nets_of es)
nets_of (Stops t sl tp ∷ es) = let h : total event_net es ≡ total net (deals es) = nets_of es in omega (arith, ints, h)
nets_of (Swap t amount ∷ es) = let h : total event_net es ≡ total net (deals es) = nets_of es in omega (arith, ints, h)
nets_of (Placed o ∷ es) = let h : total event_net es ≡ total net (deals es) = nets_of es in omega (arith, ints, h)
nets_of (Modified o ∷ es) = let h : total event_net es ≡ total net (deals es) = nets_of es in omega (arith, ints, h)
nets_of (Removed t cause ∷ es) = let h : total event_net es ≡ total net (deals es) = nets_of es in omega (arith, ints, h)
nets_of (Triggered t ∷ es) = let h : total event_net es ≡ total net (deals es) = nets_of es in omega (arith, ints, h)

pub balance_more : (es more : List Event) → balance (es ++ more) ≡ balance es +ℤ total event_net more
balance_more es more = ap (λ (ds : List Deal). total net ds) (filter_map-append deal_of es more) ∙ total-append net (deals es) (deals more) ∙ ap (λ (z : ℤ). balance es +ℤ z) (sym (nets_of more))

-- whether there is money, by the positions that are left
pub enough_of : (spec : AccountSpec) (prices : PriceList) (es more : List Event) (left : List Position) (before margin b worth : ℤ) → left ≡ fold positions_after (open_positions es) more → margin ≡ margin_by spec.hedging spec.specs spec.leverage left → before ≡ margin_of spec es → b ≡ balance es +ℤ total event_net more → worth ≡ equity_of spec.specs prices b left → not (int_lt before margin && int_lt worth margin) ≡ has_money spec prices es more
unfolding has_money
enough_of spec prices es more left before margin b worth l m f k w =
    let at : margin ≡ margin_of spec (es ++ more) = m ∙ ap (λ (ps : List Position). margin_by spec.hedging spec.specs spec.leverage ps) (l ∙ sym (open_with es more)) in
    let rich : worth ≡ equity spec.specs prices (es ++ more) = w ∙ ap (λ (z : ℤ). equity_of spec.specs prices z left) (k ∙ sym (balance_more es more)) ∙ ap (λ (ps : List Position). equity_of spec.specs prices (balance (es ++ more)) ps) (l ∙ sym (open_with es more)) in
    ap (λ (z : ℤ). not (int_lt before z && int_lt worth z)) at ∙ ap (λ (z : ℤ). not (int_lt z (margin_of spec (es ++ more)) && int_lt worth (margin_of spec (es ++ more)))) f ∙ ap (λ (z : ℤ). not (int_lt (margin_of spec es) (margin_of spec (es ++ more)) && int_lt z (margin_of spec (es ++ more)))) rich

-- the first comparison decides, or the second
pub first_decides : (e b x h : Bool) → e ≡ b → e ≡ false → not (b && x) ≡ h → true ≡ h
first_decides true b x h g n k = cc
first_decides false b x h g n k = ap (λ (y : Bool). not (y && x)) g ∙ k

pub second_decides : (e d b x h : Bool) → e ≡ b → d ≡ x → e ≡ true → not (b && x) ≡ h → not d ≡ h
second_decides true d b x h g k n r = ap (λ (y : Bool). not y) k ∙ ap (λ (y : Bool). not (y && x)) g ∙ r
second_decides false d b x h g k n r = cc

pub open_now : (es : List Event) → Rising position_ticket (open_positions es) → All IsHeld (open_positions es) → length (open_positions es) ≤ 50000 → IsOpen (open_positions es)
open_now es r h n = record { rising = r; held = h; few = omega (arith, n) }

-- the volume of both is a double where there is room
pub may_fill : (spec : AccountSpec) (prices : PriceList) (es : List Event) (f : Fill) → HasRoom spec prices es → IsOpen (open_positions es) → IsFill spec.hedging spec.specs (open_positions es) f → f.volume ≤ℤ pos (2 ^ 61) → MayAdd f (met spec.hedging (open_positions es) f)
may_fill spec prices es f r o i most =
    may_add prices f (met spec.hedging (open_positions es) f) i.some most
    (met_has IsHeld spec.hedging spec.specs f (open_positions es) o o.held i.fresh)
    (met_has (IsRoomy prices) spec.hedging spec.specs f (open_positions es) o r.positions i.fresh)

-- the same, in other words
pub may_fill_at : (spec s : AccountSpec) (ps qs : List Position) (f : Fill) → s ≡ spec → ps ≡ qs → MayAdd f (met spec.hedging qs f) → MayAdd f (met s.hedging ps f)
may_fill_at spec s ps qs f e g h = subst (λ (x : AccountSpec). MayAdd f (met x.hedging ps f)) (sym e) (subst (λ (xs : List Position). MayAdd f (met spec.hedging xs f)) (sym g) h)

same_added : (spec s : AccountSpec) (ps qs : List Position) (f : Fill) → s ≡ spec → ps ≡ qs → added_by (filled s.hedging s.specs ps f) ≡ added_by (filled spec.hedging spec.specs qs f)
same_added spec s ps qs f e g = ap (λ (x : AccountSpec). added_by (filled x.hedging x.specs ps f)) e ∙ ap (λ (xs : List Position). added_by (filled spec.hedging spec.specs xs f)) g

pub counted_at : (spec s : AccountSpec) (prices : PriceList) (b : ℤ) (ps qs left : List Position) (more : List Event) (f : Fill) → s ≡ spec → ps ≡ qs → left ≡ fold positions_after ps (added_by (filled s.hedging s.specs ps f)) → more ≡ added_by (filled s.hedging s.specs ps f) → IsCountable spec prices b (fold positions_after qs (added_by (filled spec.hedging spec.specs qs f))) (added_by (filled spec.hedging spec.specs qs f)) → IsCountable spec prices b left more
counted_at spec s prices b ps qs left more f e g l m h =
    let same : added_by (filled s.hedging s.specs ps f) ≡ added_by (filled spec.hedging spec.specs qs f) = same_added spec s ps qs f e g in
    let at : left ≡ fold positions_after qs (added_by (filled spec.hedging spec.specs qs f)) = l ∙ ap (λ (xs : List Position). fold positions_after xs (added_by (filled s.hedging s.specs ps f))) g ∙ ap (λ (es : List Event). fold positions_after qs es) same in
    subst (λ (xs : List Position). IsCountable spec prices b xs more) (sym at) (subst (λ (es : List Event). IsCountable spec prices b (fold positions_after qs (added_by (filled spec.hedging spec.specs qs f))) es) (sym (m ∙ same)) h)
