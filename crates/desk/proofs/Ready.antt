-- What judgement accepts may be done: deals.
use Rattle.std.proofs.Common.{◌≡◌, ℕ, suc, zero, ◌+◌, ◌^◌, ◌<◌, Bool, true, false, not, cond, eqb, List, [], ◌∷◌, length, find, slice_get, Option, Some, None, ℤ, pos, ◌≤ℤ◌, ◌<ℤ◌, int_lt, FitsSigned, refl, ap, subst, arith, rules, is_some, ◌||◌}
use Rattle.std.specs.Int.{w64}
use Rattle.std.specs.List.{All}
use Rattle.std.specs.Prelude.{IfSome, int_le, ⊤}
use Rattle.std.proofs.lemmas.Int.{ints}
use Rattle.std.proofs.lemmas.List.Elements.{All-tail}
use Rattle.market_types.specs.Ranges.{IsSpec}
use Rattle.market_types.specs.declared.symbol_spec.SymbolSpec.{SymbolSpec}
use Rattle.account.specs.declared.account_spec.AccountSpec.{AccountSpec}
use Rattle.account.specs.declared.position.Position.{Position}
use Rattle.account.specs.Deals.{deals}
use Rattle.account.specs.declared.order.Order.{Order}
use Rattle.account.specs.Keyed.{item}
use Rattle.account.specs.Orders.{order_ticket, orders_in_force}
use Rattle.account.specs.Positions.{position_ticket, same_side, open_positions}
use Rattle.account.specs.StopOut.{PriceList, prices_at, closing_price}
use Rattle.positions.specs.declared.fill.Fill.{Fill}
use Rattle.positions.specs.Fills.{named, met, refusal, named_refusal}
use Rattle.judgement.specs.declared.request.Request.{Request}
use Rattle.judgement.specs.declared.return_code.ReturnCode.{ReturnCode}
use Rattle.judgement.specs.Acts.{fill_of}
use Rattle.judgement.specs.Rules.{is_volume}
use Rattle.judgement.specs.Tables.{first_failing, deal_rules, has_volume, names_open, names_other_side, names_enough}
use Rattle.desk.specs.State.{Quoted}
use Rattle.desk.specs.Sound.{IsKept, IsStanding, IsSound, IsModest, AreQuoted, ArePrices}
use Rattle.desk.specs.Books.{IsFillable}
use Rattle.desk.specs.Tickets.{last_order}

-- all rules hold
abbrev pub AllHold : List (Bool × ReturnCode) → Type 0
AllHold [] = ⊤
AllHold (rule ∷ rules) = (rule.0 ≡ true) × AllHold rules

-- where none fails
pub all_hold : (rules : List (Bool × ReturnCode)) → first_failing rules ≡ None → AllHold rules
all_hold [] h = tt
all_hold (rule ∷ rules) h =
    (elim rule.0 as (λ b. rule.0 ≡ b → cond b (first_failing rules) (Some rule.1) ≡ None → AllHold (rule ∷ rules)) [
      | true ↦ λ e g. (e, all_hold rules g)
      | false ↦ λ e g. cc
    ]) refl h

-- the rules of a deal that its fill stands on
pub record DealHolds (hedging : Bool) (place : ℕ) (symbol : Option SymbolSpec) (prices : Option (ℤ × ℤ)) (named : Option Position) (r : Request) : Type 0 where
  pub volume : has_volume symbol r.volume ≡ true
  pub there : names_open place named r ≡ true
  pub side : names_other_side hedging named r ≡ true
  pub enough : names_enough hedging named r ≡ true

pub deal_holds : (hedging : Bool) (place : ℕ) (symbol : Option SymbolSpec) (prices : Option (ℤ × ℤ)) (named : Option Position) (money : Bool) (r : Request) → first_failing (deal_rules hedging place symbol prices named money r) ≡ None → DealHolds hedging place symbol prices named r
deal_holds hedging place symbol prices named money r h =
    let a : AllHold (deal_rules hedging place symbol prices named money r) = all_hold (deal_rules hedging place symbol prices named money r) h in
    record { volume = a.1.1.1.0; there = a.1.1.1.1.1.0; side = a.1.1.1.1.1.1.0; enough = a.1.1.1.1.1.1.1.0 }

-- a volume of a symbol
pub record IsDealt (v : ℤ) : Type 0 where
  pub some : pos 0 <ℤ v
  pub most : v ≤ℤ pos (10 ^ 11)

of_spec : (s : SymbolSpec) (v : ℤ) → IsSpec s → is_volume s v ≡ true → IsDealt v
unfolding is_volume
of_spec s v h e =
    let low : s.volume_min ≤ℤ v = grind (arith, ints, e) in
    let high : v ≤ℤ s.volume_max = grind (arith, ints, e) in
    record { some = omega (arith, ints, low, h.volume_min.above); most = omega (arith, ints, high, h.volume_max.most) }

pub symbol_there : (specs : List SymbolSpec) (place : ℕ) (v : ℤ) → has_volume (slice_get specs place) v ≡ true → place < length specs
unfolding has_volume
symbol_there [] place v h = cc
symbol_there (s ∷ specs) zero v h = omega arith
symbol_there (s ∷ specs) (suc n) v h = let l : n < length specs = symbol_there specs n v h in omega (arith, l)

pub volume_of : (specs : List SymbolSpec) (place : ℕ) (v : ℤ) → All IsSpec specs → has_volume (slice_get specs place) v ≡ true → IsDealt v
unfolding has_volume
volume_of [] place v h e = cc
volume_of (s ∷ specs) zero v h e = of_spec s v (h zero s (omega arith)) e
volume_of (s ∷ specs) (suc n) v h e = volume_of specs n v (All-tail IsSpec s specs h) e

-- the position that is named is not refused
accepted_some : (hedging : Bool) (p : Position) (f : Fill) (r : Request) → eqb p.symbol f.symbol ≡ true → (hedging ≡ true → same_side p.buy f.buy ≡ false) → (hedging ≡ true → int_lt p.volume f.volume ≡ false) → named_refusal hedging f (Some p) ≡ None
accepted_some false p f r e s v = rw e refl
accepted_some true p f r e s v = rw e (rw (s refl) (rw (v refl) refl))

open_some : (place : ℕ) (p : Position) (r : Request) → eqb r.position 0 ≡ false → names_open place (Some p) r ≡ true → eqb p.symbol place ≡ true
unfolding names_open
open_some place p r n h = second (eqb r.position 0) (eqb p.symbol place) n h
  where
    second : (a c : Bool) → a ≡ false → (a || c) ≡ true → c ≡ true
    second true c n h = cc
    second false c n h = h

none_open : (place : ℕ) (r : Request) → eqb r.position 0 ≡ false → names_open place None r ≡ true → ⊥
unfolding names_open
none_open place r e h = cc

other : (hedging : Bool) (p : Position) (r : Request) → eqb r.position 0 ≡ false → names_other_side hedging (Some p) r ≡ true → hedging ≡ true → same_side p.buy (eqb r.kind 0) ≡ false
unfolding names_other_side
other hedging p r e h k = other_by (same_side p.buy (eqb r.kind 0)) hedging (eqb r.position 0) e h k
  where
    other_by : (s g z : Bool) → z ≡ false → (not g || z || not s) ≡ true → g ≡ true → s ≡ false
    other_by false g z e h k = refl
    other_by true true false e h k = cc
    other_by true true true e h k = cc
    other_by true false z e h k = cc

enough : (hedging : Bool) (p : Position) (r : Request) → eqb r.position 0 ≡ false → names_enough hedging (Some p) r ≡ true → hedging ≡ true → int_lt p.volume r.volume ≡ false
unfolding names_enough
enough hedging p r e h k = not_less p.volume r.volume (enough_by (int_le r.volume p.volume) hedging (eqb r.position 0) e h k)
  where
    enough_by : (s g z : Bool) → z ≡ false → (not g || z || s) ≡ true → g ≡ true → s ≡ true
    enough_by true g z e h k = refl
    enough_by false true false e h k = cc
    enough_by false true true e h k = cc
    enough_by false false z e h k = cc

    not_less : (v w : ℤ) → int_le w v ≡ true → int_lt v w ≡ false
    not_less v w h = grind (arith, ints)

pub accepted : (hedging : Bool) (ps : List Position) (order deal : ℕ) (time_ms : ℤ) (place : ℕ) (pair : ℤ × ℤ) (r : Request) → names_open place (item position_ticket r.position ps) r ≡ true → names_other_side hedging (item position_ticket r.position ps) r ≡ true → names_enough hedging (item position_ticket r.position ps) r ≡ true → refusal hedging ps (fill_of order deal time_ms place pair r) ≡ None
accepted hedging ps order deal time_ms place pair r o s v =
    (elim (eqb r.position 0) as (λ b. eqb r.position 0 ≡ b → cond b None (named_refusal hedging (fill_of order deal time_ms place pair r) (item position_ticket r.position ps)) ≡ None) [
      | true ↦ λ e. refl
      | false ↦ λ e. found (item position_ticket r.position ps) e o s v
    ]) refl
  where
    found : (x : Option Position) → eqb r.position 0 ≡ false → names_open place x r ≡ true → names_other_side hedging x r ≡ true → names_enough hedging x r ≡ true → named_refusal hedging (fill_of order deal time_ms place pair r) x ≡ None
    found None e h g k = absurd (none_open place r e h)
    found (Some p) e h g k = accepted_some hedging p (fill_of order deal time_ms place pair r) r (open_some place p r e h) (other hedging p r e g) (enough hedging p r e k)

-- what the fill meets is of its symbol
pub found_symbol : (ps : List Position) (place : ℕ) → IfSome (find (λ p. eqb p.symbol place) ps) (λ p. p.symbol ≡ place)
found_symbol [] place = tt
found_symbol (p ∷ ps) place =
    (elim (eqb p.symbol place) as (λ b. eqb p.symbol place ≡ b → IfSome (cond b (Some p) (find (λ p. eqb p.symbol place) ps)) (λ p. p.symbol ≡ place)) [
      | true ↦ λ e. grind arith
      | false ↦ λ e. found_symbol ps place
    ]) refl

pub met_symbol : (hedging : Bool) (ps : List Position) (order deal : ℕ) (time_ms : ℤ) (place : ℕ) (pair : ℤ × ℤ) (r : Request) → names_open place (item position_ticket r.position ps) r ≡ true → IfSome (met hedging ps (fill_of order deal time_ms place pair r)) (λ p. p.symbol ≡ place)
met_symbol false ps order deal time_ms place pair r h = found_symbol ps place
met_symbol true ps order deal time_ms place pair r h =
    (elim (eqb r.position 0) as (λ b. eqb r.position 0 ≡ b → IfSome (cond b None (item position_ticket r.position ps)) (λ p. p.symbol ≡ place)) [
      | true ↦ λ e. tt
      | false ↦ λ e. named_one (item position_ticket r.position ps) e h
    ]) refl
  where
    named_one : (x : Option Position) → eqb r.position 0 ≡ false → names_open place x r ≡ true → IfSome x (λ p. p.symbol ≡ place)
    named_one None e h = tt
    named_one (Some p) e h = let s : eqb p.symbol place ≡ true = open_some place p r e h in grind arith

-- the last loud prices fit
pub prices_fit : (prices : PriceList) (place : ℕ) (pair : ℤ × ℤ) → All (λ x. IfSome x ArePrices) prices → prices_at prices place ≡ Some pair → ArePrices pair
prices_fit [] place pair h e = cc
prices_fit (x ∷ xs) zero pair h e = subst (λ (y : Option (ℤ × ℤ)). IfSome y ArePrices) e (h zero x (omega arith))
prices_fit (x ∷ xs) (suc n) pair h e = prices_fit xs n pair (All-tail (λ y. IfSome y ArePrices) x xs h) e

pub price_fits : (b : Bool) (pair : ℤ × ℤ) → ArePrices pair → FitsSigned w64 (closing_price b pair)
price_fits true pair h = omega (arith, ints, h.0.above, h.0.most)
price_fits false pair h = omega (arith, ints, h.1.above, h.1.most)

pub modest_all : (f : Fill) (o : Option Position) → f.volume ≤ℤ pos (10 ^ 11) → IsModest f o
modest_all f None h = h
modest_all f (Some p) h = (λ e. h, λ e. h)

-- no position has a ticket past the last
pub fresh_item : (spec : AccountSpec) (prices : PriceList) (times : List (Option ℤ)) (last n t : ℕ) (ps : List Position) → last < t → All (IsKept spec prices times last n) ps → item position_ticket t ps ≡ None
fresh_item spec prices times last n t [] l h = refl
fresh_item spec prices times last n t (p ∷ ps) l h =
    let k : IsKept spec prices times last n p = h zero p (omega arith) in
    let e : eqb p.ticket t ≡ false = grind (arith, k.ticket, l) in
    rw e (fresh_item spec prices times last n t ps l (All-tail (IsKept spec prices times last n) p ps h))

-- no order has a ticket past the last
pub fresh_order : (spec : AccountSpec) (prices : PriceList) (last t : ℕ) (os : List Order) → last < t → All (IsStanding spec prices last) os → item order_ticket t os ≡ None
fresh_order spec prices last t [] l h = refl
fresh_order spec prices last t (o ∷ os) l h =
    let k : IsStanding spec prices last o = h zero o (omega arith) in
    let e : eqb o.ticket t ≡ false = grind (arith, k.ticket, l) in
    rw e (fresh_order spec prices last t os l (All-tail (IsStanding spec prices last) o os h))

-- the fill of a deal that is accepted may be done
pub deal_ready : (q : Quoted) (deal : ℕ) (time_ms : ℤ) (place : ℕ) (pair : ℤ × ℤ) (money : Bool) (r : Request) → AreQuoted q.spec q.prices q.times → IsSound q.spec q.prices q.times q.events → prices_at q.prices place ≡ Some pair → first_failing (deal_rules q.spec.hedging place (slice_get q.spec.specs place) (prices_at q.prices place) (item position_ticket r.position (open_positions q.events)) money r) ≡ None → IsFillable q (fill_of (last_order q.events + 1) deal time_ms place pair r)
deal_ready q deal time_ms place pair money r a s e h =
    let ps : List Position = open_positions q.events in
    let d : DealHolds q.spec.hedging place (slice_get q.spec.specs place) (prices_at q.prices place) (item position_ticket r.position ps) r = deal_holds q.spec.hedging place (slice_get q.spec.specs place) (prices_at q.prices place) (item position_ticket r.position ps) money r h in
    let v : IsDealt r.volume = volume_of q.spec.specs place r.volume s.account.specs d.volume in
    record {
      may = record {
        symbol = symbol_there q.spec.specs place r.volume d.volume;
        priced = ap is_some e;
        some = v.some;
        modest = modest_all (fill_of (last_order q.events + 1) deal time_ms place pair r) (met q.spec.hedging ps (fill_of (last_order q.events + 1) deal time_ms place pair r)) v.most;
        volume = omega (arith, ints, v.some, v.most);
        bounded = omega (arith, ints, v.most);
        price = price_fits (not (eqb r.kind 0)) pair (prices_fit q.prices place pair a.ranges e);
        same = met_symbol q.spec.hedging ps (last_order q.events + 1) deal time_ms place pair r d.there;
      };
      accepted = accepted q.spec.hedging ps (last_order q.events + 1) deal time_ms place pair r d.there d.side d.enough;
      order = λ n. omega arith;
      taken = omega arith;
      fresh = λ n. fresh_item q.spec q.prices q.times (last_order q.events) (length (deals q.events)) (last_order q.events + 1) ps (omega arith) s.positions;
      alone = λ n. fresh_order q.spec q.prices (last_order q.events) (last_order q.events + 1) (orders_in_force q.events) (omega arith) s.orders;
    }
