-- What events make of open positions in a plain list.
use Rattle.std.proofs.Common.{◌≡◌, ℕ, Bool, true, false, cond, List, set, slice_get, remove, Option, Some, None, refl, ap, sym, subst, ◌∙◌, rules, is_none}
use Rattle.std.specs.Prelude.{IfSome}
use Rattle.account.specs.declared.deal.Deal.{Deal}
use Rattle.account.specs.declared.position.Position.{Position}
use Rattle.account.specs.declared.event.Event.{Event}
use Rattle.account.specs.declared.event.Event.TheVariants.{Placed, Modified, Removed, Triggered, Added, Stops, Swap}
use Rattle.account.specs.Keyed.{item, put, Rising, found}
use Rattle.account.specs.Positions.{positions_after, position_ticket, opened, dealt, after_deal, is_balance, with_stops, with_swap}
use Rattle.account.specs.Ranges.{MayDeal, MayChange}
use Rattle.account.proofs.Keys.{item_key}
use Rattle.account.proofs.Conserved.{after-deal-key, quiet-key}
use Rattle.account.proofs.Found.{stands, Stands, replaced, gone, rising_put}

-- the position at the place is the one of the deal
pub own : (ps : List Position) (t i : ℕ) (p : Position) → Rising position_ticket ps → Some i ≡ found position_ticket t ps → slice_get ps i ≡ Some p → item position_ticket t ps ≡ Some p
own ps t i p r h g =
    let s : Stands position_ticket t ps i = stands position_ticket t ps i r h in
    let q : s.one ≡ p = grind (rules, s.there) in
    s.is ∙ ap Some q

pub deal_changes : (d : Deal) (ps : List Position) (i : ℕ) (p q : Position) → Rising position_ticket ps → Some i ≡ found position_ticket d.position ps → slice_get ps i ≡ Some p → dealt d p ≡ Some q → put position_ticket d.position (after_deal d (item position_ticket d.position ps)) ps ≡ set ps i q
deal_changes d ps i p q r h g e = rw (own ps d.position i p r h g) (rw e (replaced position_ticket d.position ps i q r h))

pub deal_closes : (d : Deal) (ps : List Position) (i : ℕ) (p : Position) → Rising position_ticket ps → Some i ≡ found position_ticket d.position ps → slice_get ps i ≡ Some p → dealt d p ≡ None → put position_ticket d.position (after_deal d (item position_ticket d.position ps)) ps ≡ remove ps i
deal_closes d ps i p r h g e = rw (own ps d.position i p r h g) (rw e (gone position_ticket d.position ps i r h))

none_of : (o : Option Position) → is_none o ≡ true → o ≡ None
none_of None h = refl
none_of (Some p) h = cc

pub closes_at : (d : Deal) (ps : List Position) (i : ℕ) (p : Position) (b : Bool) → Rising position_ticket ps → found position_ticket d.position ps ≡ Some i → slice_get ps i ≡ Some p → b ≡ is_none (dealt d p) → b ≡ true → remove ps i ≡ put position_ticket d.position (after_deal d (item position_ticket d.position ps)) ps
closes_at d ps i p b r h g e t = sym (deal_closes d ps i p r (sym h) g (none_of (dealt d p) (sym e ∙ t)))

-- what is known of the item is known at its place
pub at_place : (P : Position → Type 0) (ps : List Position) (t i : ℕ) → Rising position_ticket ps → Some i ≡ found position_ticket t ps → IfSome (item position_ticket t ps) P → IfSome (slice_get ps i) P
at_place P ps t i r h k =
    let s : Stands position_ticket t ps i = stands position_ticket t ps i r h in
    subst (λ (o : Option Position). IfSome o P) (s.is ∙ sym s.there) k

may : (d : Deal) (o : Option Position) (p : Position) → o ≡ Some p → is_none (dealt d p) ≡ false → MayDeal d o → MayChange d p
may d None p e l h = cc
may d (Some q) p e l h = let k : q ≡ p = grind rules in let m : MayDeal d (Some p) = subst (λ (x : Position). MayDeal d (Some x)) k h in record { was = m.0; left = l; held = m.1 }

pub may_change : (d : Deal) (ps : List Position) (i : ℕ) (p : Position) (b : Bool) → Rising position_ticket ps → found position_ticket d.position ps ≡ Some i → slice_get ps i ≡ Some p → b ≡ is_none (dealt d p) → b ≡ false → MayDeal d (item position_ticket d.position ps) → IfSome (slice_get ps i) (MayChange d)
may_change d ps i p b r h g e l k = rw g (may d (item position_ticket d.position ps) p (own ps d.position i p r (sym h) g) (sym e ∙ l) k)

some_of : (o : Option Position) (P : Type 0) → is_none o ≡ false → ((q : Position) → o ≡ Some q → P) → P
some_of None P h f = cc
some_of (Some q) P h f = f q refl

pub changes_at : (d : Deal) (ps new : List Position) (i : ℕ) (p : Position) (b : Bool) → Rising position_ticket ps → found position_ticket d.position ps ≡ Some i → slice_get ps i ≡ Some p → b ≡ is_none (dealt d p) → b ≡ false → ((p q : Position) → slice_get ps i ≡ Some p → dealt d p ≡ Some q → new ≡ set ps i q) → new ≡ put position_ticket d.position (after_deal d (item position_ticket d.position ps)) ps
changes_at d ps new i p b r h g e l f =
    some_of (dealt d p) (new ≡ put position_ticket d.position (after_deal d (item position_ticket d.position ps)) ps) (sym e ∙ l)
    (λ q k. f p q g k ∙ sym (deal_changes d ps i p q r (sym h) g k))

pub rising_dealt : (d : Deal) (ps new : List Position) → Rising position_ticket ps → new ≡ put position_ticket d.position (after_deal d (item position_ticket d.position ps)) ps → Rising position_ticket new
rising_dealt d ps new r e = subst (λ (qs : List Position). Rising position_ticket qs) (sym e) (rising_put position_ticket d.position _ ps (after-deal-key d _ (item_key position_ticket d.position ps)) r)

pub rising_opened : (d : Deal) (ps new : List Position) → Rising position_ticket ps → new ≡ put position_ticket d.position (Some (opened d)) ps → Rising position_ticket new
rising_opened d ps new r e = subst (λ (qs : List Position). Rising position_ticket qs) (sym e) (rising_put position_ticket d.position (Some (opened d)) ps refl r)

-- tickets go on rising
pub rising_after : (ps : List Position) (e : Event) → Rising position_ticket ps → Rising position_ticket (positions_after ps e)
rising_after ps (Added d) r =
    elim (is_balance d.kind) as (λ b. Rising position_ticket (cond b ps (put position_ticket d.position (after_deal d (item position_ticket d.position ps)) ps))) [
      | true ↦ r
      | false ↦ rising_put position_ticket d.position _ ps (after-deal-key d _ (item_key position_ticket d.position ps)) r
    ]
rising_after ps (Stops t sl tp) r = rising_put position_ticket t _ ps (quiet-key (with_stops sl tp) t (item position_ticket t ps) (λ p. refl) (item_key position_ticket t ps)) r
rising_after ps (Swap t amount) r = rising_put position_ticket t _ ps (quiet-key (with_swap amount) t (item position_ticket t ps) (λ p. refl) (item_key position_ticket t ps)) r
rising_after ps (Placed o) r = r
rising_after ps (Modified o) r = r
rising_after ps (Removed t cause) r = r
rising_after ps (Triggered t) r = r
