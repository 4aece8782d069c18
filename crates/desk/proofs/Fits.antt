-- The events of a fill may be added one after another.
use Rattle.std.proofs.Common.{◌≡◌, ◌∙◌, ℕ, ◌+◌, ◌^◌, ◌<◌, ◌≤◌, Bool, true, false, cond, List, [], ◌∷◌, length, eqb, find, rules, Option, Some, None, ℤ, pos, ◌≤ℤ◌, ◌<ℤ◌, int_lt, unsigned_abs, refl, ap, sym, subst, arith, is_some, ◌&&◌}
use Rattle.std.specs.Prelude.{IfSome}
use Rattle.std.specs.Ordering.{int_eq}
use Rattle.std.proofs.lemmas.Int.{ints}
use Rattle.market_types.specs.declared.symbol_spec.SymbolSpec.{SymbolSpec}
use Rattle.account.specs.declared.account_spec.AccountSpec.{AccountSpec}
use Rattle.account.specs.declared.deal.Deal.{Deal}
use Rattle.account.specs.declared.deal.DealEntry.TheVariants as entry
use Rattle.account.specs.declared.position.Position.{Position}
use Rattle.account.specs.declared.event.Event.{Event}
use Rattle.account.specs.declared.event.Event.TheVariants.{Stops}
use Rattle.account.specs.Deals.{deals}
use Rattle.account.specs.declared.order.Order.{Order}
use Rattle.account.specs.Keyed.{item}
use Rattle.account.specs.Orders.{order_ticket, orders_in_force}
use Rattle.account.specs.Positions.{position_ticket, same_side, is_buy, is_balance, opened, added, reduced, reversed, dealt, after_deal, open_positions}
use Rattle.account.specs.Ranges.{IsHeld, MayDeal}
use Rattle.account.specs.StopOut.{PriceList}
use Rattle.account.proofs.Found.{all_item}
use Rattle.account.proofs.Kept.{rising_open}
use Rattle.positions.specs.declared.fill.Fill.{Fill}
use Rattle.positions.specs.declared.fill.Levels.{Levels}
use Rattle.positions.specs.Fills.{kind_of, plain, closed, deal_on, met, levels_of, stops_event, events_on, MayAdd}
use Rattle.positions.proofs.Filling.{met_item, deal_kind, not_balance, may_deal}
use Rattle.desk.specs.Tickets.{greater_number, last_order}
use Rattle.desk.specs.Sound.{IsKept, IsSound, AreApart, IsSole, MayFill, MayTrade, MayFollow, AreQuoted}
use Rattle.desk.proofs.Days.{day_small}
use Rattle.desk.proofs.Entered.{greater_left}
use Rattle.positions.proofs.Nets.{IsPart, swap_part, deal_small}

pub greater_right : (a b : ℕ) → b ≤ greater_number a b
unfolding greater_number
greater_right a b = grind arith

buy_of : (b : Bool) → is_buy (kind_of b) ≡ b
buy_of true = refl
buy_of false = refl

opened_kept : (spec : AccountSpec) (prices : PriceList) (times : List (Option ℤ)) (last n : ℕ) (f : Fill) → MayFill spec prices f None → 0 < f.order → IsHeld (opened (plain spec.specs f f.order entry.In)) → IsKept spec prices times (greater_number last f.order) (n + 1) (opened (plain spec.specs f f.order entry.In))
opened_kept spec prices times last n f m z h = record {
  symbol = m.symbol;
  priced = m.priced;
  held = h;
  volume = omega (arith, ints, m.modest);
  swap = omega (arith, ints);
  from = z;
  ticket = greater_right last f.order;
}

added_kept : (spec : AccountSpec) (prices : PriceList) (times : List (Option ℤ)) (last n : ℕ) (f : Fill) (p : Position) → IsKept spec prices times last n p → f.volume ≤ℤ pos (10 ^ 11) → IsHeld (added (plain spec.specs f p.ticket entry.In) p) → IsKept spec prices times (greater_number last f.order) (n + 1) (added (plain spec.specs f p.ticket entry.In) p)
added_kept spec prices times last n f p k v h = record {
  symbol = k.symbol;
  priced = k.priced;
  held = h;
  volume = omega (arith, ints, k.volume, v);
  swap = omega (arith, ints, k.swap);
  from = k.from;
  ticket = omega (arith, k.ticket, greater_left last f.order);
}

reduced_kept : (spec : AccountSpec) (prices : PriceList) (times : List (Option ℤ)) (last n : ℕ) (f : Fill) (p : Position) → IsKept spec prices times last n p → pos 0 <ℤ f.volume → IsHeld (reduced (closed spec.specs f p) p) → IsKept spec prices times (greater_number last f.order) (n + 1) (reduced (closed spec.specs f p) p)
reduced_kept spec prices times last n f p k s h = record {
  symbol = k.symbol;
  priced = k.priced;
  held = h;
  volume = omega (arith, ints, k.volume, s);
  swap = let w : IsPart p.swap _ = swap_part f p s in omega (arith, w.left, k.swap);
  from = k.from;
  ticket = omega (arith, k.ticket, greater_left last f.order);
}

reversed_kept : (spec : AccountSpec) (prices : PriceList) (times : List (Option ℤ)) (last n : ℕ) (f : Fill) (p : Position) → IsKept spec prices times last n p → pos 0 <ℤ f.volume → f.volume ≤ℤ pos (10 ^ 11) → IsHeld (reversed (closed spec.specs f p) p) → IsKept spec prices times (greater_number last f.order) (n + 1) (reversed (closed spec.specs f p) p)
reversed_kept spec prices times last n f p k s v h = record {
  symbol = k.symbol;
  priced = k.priced;
  held = h;
  volume = omega (arith, ints, v, k.held.some);
  swap = let w : IsPart p.swap _ = swap_part f p s in omega (arith, w.left, k.swap);
  from = k.from;
  ticket = omega (arith, k.ticket, greater_left last f.order);
}

-- what the deal leaves is kept
left_kept : (spec : AccountSpec) (prices : PriceList) (times : List (Option ℤ)) (last n : ℕ) (f : Fill) (o : Option Position) → MayFill spec prices f o → (o ≡ None → 0 < f.order) → IfSome o (IsKept spec prices times last n) → IfSome (after_deal (deal_on spec.specs f o) o) IsHeld → IfSome (after_deal (deal_on spec.specs f o) o) (IsKept spec prices times (greater_number last f.order) (n + 1))
left_kept spec prices times last n f None m z k h = opened_kept spec prices times last n f m (z refl) h
left_kept spec prices times last n f (Some p) m z k h =
    (elim (same_side p.buy f.buy) as (λ b. same_side p.buy f.buy ≡ b → IfSome (dealt (cond b (plain spec.specs f p.ticket entry.In) (closed spec.specs f p)) p) IsHeld → IfSome (dealt (cond b (plain spec.specs f p.ticket entry.In) (closed spec.specs f p)) p) (IsKept spec prices times (greater_number last f.order) (n + 1))) [
      | true ↦ λ e. let side : same_side p.buy (is_buy (kind_of f.buy)) ≡ true = ap (λ (x : Bool). same_side p.buy x) (buy_of f.buy) ∙ e in rw side (λ g. added_kept spec prices times last n f p k (m.modest.0 e) g)
      | false ↦ λ e. let side : same_side p.buy (is_buy (kind_of f.buy)) ≡ false = ap (λ (x : Bool). same_side p.buy x) (buy_of f.buy) ∙ e in rw side (
          elim (int_lt f.volume p.volume) as (λ c. IfSome (cond c (Some (reduced (closed spec.specs f p) p)) (cond (int_lt p.volume f.volume) (Some (reversed (closed spec.specs f p) p)) None)) IsHeld → IfSome (cond c (Some (reduced (closed spec.specs f p) p)) (cond (int_lt p.volume f.volume) (Some (reversed (closed spec.specs f p) p)) None)) (IsKept spec prices times (greater_number last f.order) (n + 1))) [
            | true ↦ λ g. reduced_kept spec prices times last n f p k m.some g
            | false ↦ (elim (int_lt p.volume f.volume) as (λ d. int_lt p.volume f.volume ≡ d → IfSome (cond d (Some (reversed (closed spec.specs f p) p)) None) IsHeld → IfSome (cond d (Some (reversed (closed spec.specs f p) p)) None) (IsKept spec prices times (greater_number last f.order) (n + 1))) [
              | true ↦ λ l g. reversed_kept spec prices times last n f p k m.some (m.modest.1 (grind (arith, ints))) g
              | false ↦ λ l g. tt
            ]) refl
          ])
    ]) refl h

deal_symbol : (specs : List SymbolSpec) (f : Fill) (o : Option Position) → (deal_on specs f o).symbol ≡ f.symbol
deal_symbol specs f None = refl
deal_symbol specs f (Some p) = elim (same_side p.buy f.buy) as (λ b. (cond b (plain specs f p.ticket entry.In) (closed specs f p)).symbol ≡ f.symbol) [ true ↦ refl | false ↦ refl ]

pub deal_order : (specs : List SymbolSpec) (f : Fill) (o : Option Position) → (deal_on specs f o).order ≡ f.order
deal_order specs f None = refl
deal_order specs f (Some p) = elim (same_side p.buy f.buy) as (λ b. (cond b (plain specs f p.ticket entry.In) (closed specs f p)).order ≡ f.order) [ true ↦ refl | false ↦ refl ]

-- the volume of both is a double
pub may_add : (spec : AccountSpec) (prices : PriceList) (times : List (Option ℤ)) (last n : ℕ) (f : Fill) (o : Option Position) → n ≤ 50000 → MayFill spec prices f o → IfSome o (IsKept spec prices times last n) → MayAdd f o
may_add spec prices times last n f None h m k = tt
may_add spec prices times last n f (Some p) h m k = λ e. let v : f.volume ≤ℤ pos (10 ^ 11) = m.modest.0 e in omega (arith, ints, h, v, k.volume, k.held.some, m.some)

held_of : (spec : AccountSpec) (prices : PriceList) (times : List (Option ℤ)) (last n : ℕ) (o : Option Position) → IfSome o (IsKept spec prices times last n) → IfSome o IsHeld
held_of spec prices times last n None k = tt
held_of spec prices times last n (Some p) k = k.held

pub swap_small : (spec : AccountSpec) (prices : PriceList) (times : List (Option ℤ)) (last n : ℕ) (o : Option Position) → AreQuoted spec prices times → IfSome o (IsKept spec prices times last n) → IfSome o (λ p. unsigned_abs p.swap ≤ 2 ^ 100)
swap_small spec prices times last n None q k = tt
swap_small spec prices times last n (Some p) q k = omega (arith, k.swap, day_small times p.symbol q.moments)

-- no order has the ticket of the position of the deal
alone_on : (specs : List SymbolSpec) (f : Fill) (os : List Order) (ps : List Position) (o : Option Position) → (o ≡ None → item order_ticket f.order os ≡ None) → item position_ticket (deal_on specs f o).position ps ≡ o → AreApart os ps → item order_ticket (deal_on specs f o).position os ≡ None
alone_on specs f os ps None a at h = a refl
alone_on specs f os ps (Some p) a at h =
    let t : ℕ = (deal_on specs f (Some p)).position in
    (elim (item order_ticket t os) as (λ x. item order_ticket t os ≡ x → x ≡ None) [
      | None ↦ λ e. refl
      | Some y ↦ λ e. let n : item position_ticket t ps ≡ None = h t (ap is_some e) in cc
    ]) refl

-- a deal keeps the symbol of its position
some_symbol : (p q : Position) → Some p ≡ Some q → q.symbol ≡ p.symbol
some_symbol p q e = let c : p ≡ q = grind rules in ap (λ (y : Position). y.symbol) (sym c)

choice_symbol : (d : Deal) (p q : Position) (a b c : Bool) → cond a (Some (added d p)) (cond b (Some (reduced d p)) (cond c (Some (reversed d p)) None)) ≡ Some q → q.symbol ≡ p.symbol
choice_symbol d p q true b c e = some_symbol (added d p) q e
choice_symbol d p q false true c e = some_symbol (reduced d p) q e
choice_symbol d p q false false true e = some_symbol (reversed d p) q e
choice_symbol d p q false false false e = cc

deal_symbol_kept : (d : Deal) (x : Option Position) (p q : Position) → x ≡ Some p → after_deal d x ≡ Some q → q.symbol ≡ p.symbol
deal_symbol_kept d None p q e g = cc
deal_symbol_kept d (Some x) p q e g = choice_symbol d x q (same_side x.buy (is_buy d.kind)) (int_lt d.volume x.volume) (int_lt x.volume d.volume) g ∙ some_symbol p x (sym e)

opened_symbol : (d : Deal) (x : Option Position) (q : Position) → x ≡ None → after_deal d x ≡ Some q → q.symbol ≡ d.symbol
opened_symbol d None q e g = some_symbol (opened d) q g
opened_symbol d (Some x) q e g = cc

-- the position of the deal is the only one of its symbol
sole_on : (specs : List SymbolSpec) (f : Fill) (ps : List Position) (o : Option Position) → (o ≡ None → (t : ℕ) (r : Position) → item position_ticket t ps ≡ Some r → r.symbol ≡ f.symbol → ⊥) → item position_ticket (deal_on specs f o).position ps ≡ o → IsSole ps (deal_on specs f o).position (after_deal (deal_on specs f o) (item position_ticket (deal_on specs f o).position ps))
sole_on specs f ps o n at = record {
  kept = λ p q e g. deal_symbol_kept (deal_on specs f o) (item position_ticket (deal_on specs f o).position ps) p q e g;
  sole = λ q r t e g h k. n (sym at ∙ e) t r h (k ∙ opened_symbol (deal_on specs f o) (item position_ticket (deal_on specs f o).position ps) q e g ∙ deal_symbol specs f o);
}

-- where a fill meets no position under netting, there is none on its symbol
pub none_found : (ps : List Position) (s t : ℕ) (r : Position) → find (λ p. eqb p.symbol s) ps ≡ None → item position_ticket t ps ≡ Some r → r.symbol ≡ s → ⊥
none_found [] s t r n e h = cc
none_found (p ∷ ps) s t r n e h =
    (elim (eqb p.symbol s) as (λ b. eqb p.symbol s ≡ b → cond b (Some p) (find (λ p. eqb p.symbol s) ps) ≡ None → ⊥) [
      | true ↦ λ a g. cc
      | false ↦ λ a g.
          (elim (eqb p.ticket t) as (λ c. cond c (Some p) (item position_ticket t ps) ≡ Some r → ⊥) [
            | true ↦ λ k. let same : r.symbol ≡ p.symbol = some_symbol p r k in let x : p.symbol ≡ s = sym same ∙ h in not_there p.symbol s a x
            | false ↦ λ k. none_found ps s t r g k h
          ]) e
    ]) refl n
  where
    not_there : (a c : ℕ) → eqb a c ≡ false → a ≡ c → ⊥
    not_there a c e h = let g : eqb a c ≡ true = grind (arith, h) in cc

none_other : (hedging : Bool) (ps : List Position) (f : Fill) → hedging ≡ false → met hedging ps f ≡ None → (t : ℕ) (r : Position) → item position_ticket t ps ≡ Some r → r.symbol ≡ f.symbol → ⊥
none_other true ps f h n t r e s = cc
none_other false ps f h n t r e s = none_found ps f.symbol t r n e s

-- the deal on what a fill meets
pub trade_on : (spec : AccountSpec) (prices : PriceList) (times : List (Option ℤ)) (es : List Event) (f : Fill) (o : Option Position) → AreQuoted spec prices times → IsSound spec prices times es → length (deals es) < 50000 → MayFill spec prices f o → item position_ticket (deal_on spec.specs f o).position (open_positions es) ≡ o → (o ≡ None → 0 < f.order) → (o ≡ None → item order_ticket f.order (orders_in_force es) ≡ None) → (spec.hedging ≡ false → o ≡ None → (t : ℕ) (r : Position) → item position_ticket t (open_positions es) ≡ Some r → r.symbol ≡ f.symbol → ⊥) → MayTrade spec prices times es (deal_on spec.specs f o)
trade_on spec prices times es f o q s l m at order alone other =
    let kept : IfSome o (IsKept spec prices times (last_order es) (length (deals es))) = subst (λ (x : Option Position). IfSome x (IsKept spec prices times (last_order es) (length (deals es)))) at (all_item (IsKept spec prices times (last_order es) (length (deals es))) position_ticket (deal_on spec.specs f o).position (open_positions es) s.positions) in
    let held : IfSome o IsHeld = held_of spec prices times (last_order es) (length (deals es)) o kept in
    let may : MayDeal (deal_on spec.specs f o) o = may_deal spec.specs f o m.some m.volume m.price held (may_add spec prices times (last_order es) (length (deals es)) f o (omega (arith, l)) m kept) in
    record {
      trade = ap is_balance (deal_kind spec.specs f o) ∙ not_balance f.buy;
      few = l;
      symbol = rw (deal_symbol spec.specs f o) m.symbol;
      same = rw at (rw (deal_symbol spec.specs f o) m.same);
      types = rw at may;
      left = rw at (rw (deal_order spec.specs f o) (left_kept spec prices times (last_order es) (length (deals es)) f o m order kept may.1));
      small = deal_small spec.specs f o s.account.specs m.some m.volume m.price held (swap_small spec prices times (last_order es) (length (deals es)) o q kept);
      alone = alone_on spec.specs f (orders_in_force es) (open_positions es) o alone at s.tidy.apart;
      sole = λ h. sole_on spec.specs f (open_positions es) o (other h) at;
    }

stops_follow : (spec : AccountSpec) (prices : PriceList) (times : List (Option ℤ)) (es : List Event) (o : Option Position) (l : Levels) → MayFollow spec prices times es (stops_event o l)
stops_follow spec prices times es None l = tt
stops_follow spec prices times es (Some p) l = elim (int_eq p.sl l.sl && int_eq p.tp l.tp) as (λ b. MayFollow spec prices times es (cond b [] (Stops p.ticket l.sl l.tp ∷ []))) [ true ↦ tt | false ↦ (tt, tt) ]

-- the events of a fill on what it meets
pub fill_follows : (spec : AccountSpec) (prices : PriceList) (times : List (Option ℤ)) (es : List Event) (f : Fill) → AreQuoted spec prices times → IsSound spec prices times es → length (deals es) < 50000 → MayFill spec prices f (met spec.hedging (open_positions es) f) → (met spec.hedging (open_positions es) f ≡ None → 0 < f.order) → (met spec.hedging (open_positions es) f ≡ None → item position_ticket f.order (open_positions es) ≡ None) → (met spec.hedging (open_positions es) f ≡ None → item order_ticket f.order (orders_in_force es) ≡ None) → MayFollow spec prices times es (events_on spec.specs f (met spec.hedging (open_positions es) f))
fill_follows spec prices times es f q s l m order fresh alone =
    let o : Option Position = met spec.hedging (open_positions es) f in (
      trade_on spec prices times es f o q s l m (met_item spec.hedging spec.specs (open_positions es) f (rising_open es) fresh) order alone (λ h n. none_other spec.hedging (open_positions es) f h n),
      stops_follow spec prices times _ (after_deal (deal_on spec.specs f o) o) (levels_of f o),
    )
