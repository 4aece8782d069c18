-- What a fill meets, and what it leaves.
use Rattle.std.proofs.Common.{◌≡◌, ◌∙◌, ℕ, Bool, true, false, cond, eqb, ltb, List, [], ◌∷◌, find, Option, Some, None, pos, ◌+ℤ◌, ◌<ℤ◌, int_lt, FitsSigned, refl, ap, sym, subst, arith, rules}
use Rattle.std.specs.Prelude.{IfSome}
use Rattle.std.specs.Int.{w64}
use Rattle.std.proofs.lemmas.Int.{ints}
use Rattle.market_types.specs.declared.symbol_spec.SymbolSpec.{SymbolSpec}
use Rattle.account.specs.declared.deal.DealEntry.TheVariants as entry
use Rattle.account.specs.declared.position.Position.{Position}
use Rattle.account.specs.Keyed.{item, Rising, AllAbove, KeyIs}
use Rattle.account.specs.Positions.{position_ticket, same_side, is_buy, is_balance, added, reduced, reversed, opened, dealt}
use Rattle.account.specs.Ranges.{IsHeld, MayDeal}
use Rattle.account.proofs.Keys.{item_key}
use Rattle.positions.specs.declared.fill.Fill.{Fill}
use Rattle.positions.specs.Fills.{kind_of, plain, closed, deal_on, met, MayAdd}
use Rattle.positions.proofs.Held.{portion_left, weighted_fits}

above_found : {X : Type 0} (key : X → ℕ) (q : X → Bool) (k : ℕ) (xs : List X) (p : X) → AllAbove ltb key k xs → find q xs ≡ Some p → ltb k (key p) ≡ true
above_found key q k [] p a h = cc
above_found {X} key q k (x ∷ xs) p a h =
    (elim (q x) as (λ b. cond b (Some x) (find q xs) ≡ Some p → ltb k (key p) ≡ true) [
      | true ↦ λ g. let e : x ≡ p = grind rules in subst (λ (y : X). ltb k (key y) ≡ true) e a.0
      | false ↦ λ g. above_found key q k xs p a.1 g
    ]) h

-- what a search finds is the item of its ticket
item_found : {X : Type 0} (key : X → ℕ) (q : X → Bool) (xs : List X) (p : X) → Rising key xs → find q xs ≡ Some p → item key (key p) xs ≡ Some p
item_found key q [] p r h = cc
item_found {X} key q (x ∷ xs) p r h =
    (elim (q x) as (λ b. cond b (Some x) (find q xs) ≡ Some p → item key (key p) (x ∷ xs) ≡ Some p) [
      | true ↦ λ g. let e : x ≡ p = grind rules in let s : eqb (key x) (key p) ≡ true = rw e (same (key p)) in rw s g
      | false ↦ λ g. let m : ltb (key x) (key p) ≡ true = above_found key q (key x) xs p r.0 g in
          let s : eqb (key x) (key p) ≡ false = grind arith in rw s (item_found key q xs p r.1 g)
    ]) h
  where
    same : (n : ℕ) → eqb n n ≡ true
    same n = grind arith

is_buy_of : (b : Bool) → is_buy (kind_of b) ≡ b
is_buy_of true = refl
is_buy_of false = refl

pub not_balance : (b : Bool) → is_balance (kind_of b) ≡ false
not_balance true = refl
not_balance false = refl

-- the deal names the position that it meets, and buys or sells
deal_position : (specs : List SymbolSpec) (f : Fill) (p : Position) → (deal_on specs f (Some p)).position ≡ p.ticket
deal_position specs f p = elim (same_side p.buy f.buy) as (λ b. (cond b (plain specs f p.ticket entry.In) (closed specs f p)).position ≡ p.ticket) [ true ↦ refl | false ↦ refl ]

pub deal_kind : (specs : List SymbolSpec) (f : Fill) (o : Option Position) → (deal_on specs f o).kind ≡ kind_of f.buy
deal_kind specs f None = refl
deal_kind specs f (Some p) = elim (same_side p.buy f.buy) as (λ b. (cond b (plain specs f p.ticket entry.In) (closed specs f p)).kind ≡ kind_of f.buy) [ true ↦ refl | false ↦ refl ]

named_item : (ps : List Position) (n : ℕ) (p : Position) → item position_ticket n ps ≡ Some p → item position_ticket p.ticket ps ≡ Some p
named_item ps n p h =
    let k : KeyIs position_ticket n (Some p) = subst (λ (o : Option Position). KeyIs position_ticket n o) h (item_key position_ticket n ps) in
    subst (λ (t : ℕ). item position_ticket t ps ≡ Some p) (sym k) h

met_some : (hedging : Bool) (ps : List Position) (f : Fill) (p : Position) → Rising position_ticket ps → met hedging ps f ≡ Some p → item position_ticket p.ticket ps ≡ Some p
met_some false ps f p r h = item_found position_ticket (λ q. eqb q.symbol f.symbol) ps p r h
met_some true ps f p r h =
    (elim (eqb f.position 0) as (λ b. cond b None (item position_ticket f.position ps) ≡ Some p → item position_ticket p.ticket ps ≡ Some p) [
      | true ↦ λ g. cc
      | false ↦ λ g. named_item ps f.position p g
    ]) h

-- the position that a fill meets is that of its deal's ticket
pub met_item : (hedging : Bool) (specs : List SymbolSpec) (ps : List Position) (f : Fill) → Rising position_ticket ps → (met hedging ps f ≡ None → item position_ticket f.order ps ≡ None) → item position_ticket (deal_on specs f (met hedging ps f)).position ps ≡ met hedging ps f
met_item hedging specs ps f r fresh =
    (elim (met hedging ps f) as (λ o. met hedging ps f ≡ o → item position_ticket (deal_on specs f o).position ps ≡ o) [
      | None ↦ λ e. fresh e
      | Some p ↦ λ e. ap (λ (t : ℕ). item position_ticket t ps) (deal_position specs f p) ∙ met_some hedging ps f p r e
    ]) refl

opened_held : (specs : List SymbolSpec) (f : Fill) → pos 0 <ℤ f.volume → FitsSigned w64 f.volume → FitsSigned w64 f.price → IsHeld (opened (plain specs f f.order entry.In))
opened_held specs f s v p = record { some = s; volume = v; price = p; swap = omega (arith, ints) }

added_held : (specs : List SymbolSpec) (f : Fill) (p : Position) → pos 0 <ℤ f.volume → FitsSigned w64 f.price → IsHeld p → FitsSigned w64 (p.volume +ℤ f.volume) → IsHeld (added (plain specs f p.ticket entry.In) p)
added_held specs f p s g h v = record {
  some = omega (arith, ints, s, h.some);
  volume = v;
  price = weighted_fits p.volume f.volume p.price f.price h.some s h.price g;
  swap = omega (arith, ints, h.swap);
}

reduced_held : (specs : List SymbolSpec) (f : Fill) (p : Position) → pos 0 <ℤ f.volume → IsHeld p → int_lt f.volume p.volume ≡ true → IsHeld (reduced (closed specs f p) p)
reduced_held specs f p s h l =
    let k : f.volume <ℤ p.volume = grind (arith, ints) in
    record {
      some = omega (arith, ints, k);
      volume = omega (arith, ints, k, s, h.volume, h.some);
      price = h.price;
      swap = rw l (portion_left p.swap f.volume p.volume h.swap s (omega (arith, ints, k)));
    }

reversed_held : (specs : List SymbolSpec) (f : Fill) (p : Position) → FitsSigned w64 f.volume → FitsSigned w64 f.price → IsHeld p → int_lt f.volume p.volume ≡ false → int_lt p.volume f.volume ≡ true → IsHeld (reversed (closed specs f p) p)
reversed_held specs f p v g h n l =
    let k : p.volume <ℤ f.volume = grind (arith, ints) in
    record {
      some = omega (arith, ints, k);
      volume = omega (arith, ints, k, v, h.some);
      price = g;
      swap = rw n (omega (arith, ints));
    }

dealt_held : (specs : List SymbolSpec) (f : Fill) (p : Position) → pos 0 <ℤ f.volume → FitsSigned w64 f.volume → FitsSigned w64 f.price → IsHeld p → (same_side p.buy f.buy ≡ true → FitsSigned w64 (p.volume +ℤ f.volume)) → IfSome (dealt (deal_on specs f (Some p)) p) IsHeld
dealt_held specs f p s v g h m =
    (elim (same_side p.buy f.buy) as (λ b. same_side p.buy f.buy ≡ b → IfSome (dealt (cond b (plain specs f p.ticket entry.In) (closed specs f p)) p) IsHeld) [
      | true ↦ λ e. let side : same_side p.buy (is_buy (kind_of f.buy)) ≡ true = ap (λ (x : Bool). same_side p.buy x) (is_buy_of f.buy) ∙ e in rw side (added_held specs f p s g h (m e))
      | false ↦ λ e. let side : same_side p.buy (is_buy (kind_of f.buy)) ≡ false = ap (λ (x : Bool). same_side p.buy x) (is_buy_of f.buy) ∙ e in rw side (
          (elim (int_lt f.volume p.volume) as (λ c. int_lt f.volume p.volume ≡ c → IfSome (cond c (Some (reduced (closed specs f p) p)) (cond (int_lt p.volume f.volume) (Some (reversed (closed specs f p) p)) None)) IsHeld) [
            | true ↦ λ l. reduced_held specs f p s h l
            | false ↦ λ n. (elim (int_lt p.volume f.volume) as (λ d. int_lt p.volume f.volume ≡ d → IfSome (cond d (Some (reversed (closed specs f p) p)) None) IsHeld) [
              | true ↦ λ l. reversed_held specs f p v g h n l
              | false ↦ λ l. tt
            ]) refl
          ]) refl)
    ]) refl

-- a position keeps the types of its numbers before and after the deal of a fill
pub may_deal : (specs : List SymbolSpec) (f : Fill) (o : Option Position) → pos 0 <ℤ f.volume → FitsSigned w64 f.volume → FitsSigned w64 f.price → IfSome o IsHeld → MayAdd f o → MayDeal (deal_on specs f o) o
may_deal specs f None s v g h m = (tt, opened_held specs f s v g)
may_deal specs f (Some p) s v g h m = (h, dealt_held specs f p s v g h m)
