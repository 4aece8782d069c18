-- What is conserved: the volumes of positions and the balance, over all lists of events.
use Rattle.std.proofs.Common.{◌≡◌, ℕ, ◌++◌, Bool, true, false, cond, eqb, List, [], ◌∷◌, Option, Some, None, refl, ap, ◌∙◌, subst, arith, fold, ℤ, pos, ◌+ℤ◌, ◌-ℤ◌, int_lt}
use Rattle.std.proofs.lemmas.Int.{ints}
use Rattle.std.specs.List.{cons_option}
use Rattle.std.specs.Option.{option_map}
use Rattle.account.specs.declared.deal.Deal.{Deal}
use Rattle.account.specs.declared.position.Position.{Position}
use Rattle.account.specs.declared.event.Event.{Event}
use Rattle.account.specs.declared.event.Event.TheVariants.{Placed, Modified, Removed, Triggered, Added, Stops, Swap}
use Rattle.account.specs.Keyed.{item, put, KeyIs}
use Rattle.account.specs.Money.{for_side}
use Rattle.account.specs.Deals.{total, deal_of, deals, net, balance, profit_of, swap_of, commission_of}
use Rattle.account.specs.Positions.{positions_after, open_positions, position_ticket, dealt, added, reduced, reversed, after_deal, is_buy, is_balance, same_side}
use Rattle.account.specs.Conservation.{signed_volume, share}
use Rattle.account.proofs.Keys.{item-put, item-put-other, item_key}

pub total-append : {X : Type 0} (f : X → ℤ) (xs ys : List X) → total f (xs ++ ys) ≡ total f xs +ℤ total f ys
total-append f [] ys = omega (arith, ints)
total-append f (x ∷ xs) ys = omega (arith, ints, total-append f xs ys)

-- what the three outcomes on the other side leave
across : (pb db : Bool) (v w : ℤ) → same_side pb db ≡ false → cond (int_lt w v) (for_side pb (v -ℤ w)) (cond (int_lt v w) (for_side db (w -ℤ v)) (pos 0)) ≡ for_side pb v +ℤ for_side db w
across true true v w h = cc
across true false v w h = grind (arith, ints)
across false true v w h = grind (arith, ints)
across false false v w h = cc

along : (pb db : Bool) (v w : ℤ) → same_side pb db ≡ true → for_side pb (v +ℤ w) ≡ for_side pb v +ℤ for_side db w
along true true v w h = omega (arith, ints)
along true false v w h = cc
along false true v w h = cc
along false false v w h = omega (arith, ints)

-- the signed volume of a choice
of_choice : (a b c : Bool) (p q r : Position) → signed_volume (cond a (Some p) (cond b (Some q) (cond c (Some r) None))) ≡ cond a (for_side p.buy p.volume) (cond b (for_side q.buy q.volume) (cond c (for_side r.buy r.volume) (pos 0)))
of_choice true b c p q r = refl
of_choice false true c p q r = refl
of_choice false false true p q r = refl
of_choice false false false p q r = refl

-- what a deal does to the signed volume of its position
pub dealt-volume : (d : Deal) (p : Position) → signed_volume (dealt d p) ≡ for_side p.buy p.volume +ℤ for_side (is_buy d.kind) d.volume
dealt-volume d p =
    of_choice (same_side p.buy (is_buy d.kind)) (int_lt d.volume p.volume) (int_lt p.volume d.volume) _ _ _ ∙
    (elim (same_side p.buy (is_buy d.kind)) as (λ c. same_side p.buy (is_buy d.kind) ≡ c →
    cond c (for_side p.buy (p.volume +ℤ d.volume)) (cond (int_lt d.volume p.volume) (for_side p.buy (p.volume -ℤ d.volume)) (cond (int_lt p.volume d.volume) (for_side (is_buy d.kind) (d.volume -ℤ p.volume)) (pos 0)))
    ≡ for_side p.buy p.volume +ℤ for_side (is_buy d.kind) d.volume) [
      | true ↦ λ e. along p.buy (is_buy d.kind) p.volume d.volume e
      | false ↦ λ e. across p.buy (is_buy d.kind) p.volume d.volume e
    ]) refl

key_of_choice : (t : ℕ) (a b c : Bool) (p q r : Position) → p.ticket ≡ t → q.ticket ≡ t → r.ticket ≡ t → KeyIs position_ticket t (cond a (Some p) (cond b (Some q) (cond c (Some r) None)))
key_of_choice t true b c p q r e f g = e
key_of_choice t false true c p q r e f g = f
key_of_choice t false false true p q r e f g = g
key_of_choice t false false false p q r e f g = tt

pub dealt-key : (d : Deal) (p : Position) → p.ticket ≡ d.position → KeyIs position_ticket d.position (dealt d p)
dealt-key d p h = key_of_choice d.position (same_side p.buy (is_buy d.kind)) (int_lt d.volume p.volume) (int_lt p.volume d.volume) (added d p) (reduced d p) (reversed d p) h h h

-- a change at one ticket
pub volume-put : (t u : ℕ) (ps : List Position) (new : Option Position) (w : ℤ) → KeyIs position_ticket u new → signed_volume new ≡ signed_volume (item position_ticket u ps) +ℤ w → signed_volume (item position_ticket t (put position_ticket u new ps)) ≡ signed_volume (item position_ticket t ps) +ℤ cond (eqb u t) w (pos 0)
volume-put t u ps new w k h =
    (elim (eqb u t) as (λ b. eqb u t ≡ b → signed_volume (item position_ticket t (put position_ticket u new ps)) ≡ signed_volume (item position_ticket t ps) +ℤ cond b w (pos 0)) [
      | true ↦ λ e. let same : u ≡ t = grind arith in
          subst (λ (x : ℕ). signed_volume (item position_ticket x (put position_ticket u new ps)) ≡ signed_volume (item position_ticket x ps) +ℤ w) same (ap signed_volume (item-put position_ticket u new ps k) ∙ h)
      | false ↦ λ e. ap signed_volume (item-put-other position_ticket u t new ps k e) ∙ omega (arith, ints)
    ]) refl

pub after-deal-key : (d : Deal) (o : Option Position) → KeyIs position_ticket d.position o → KeyIs position_ticket d.position (after_deal d o)
after-deal-key d None k = refl
after-deal-key d (Some p) k = dealt-key d p k

after-deal-volume : (d : Deal) (o : Option Position) → signed_volume (after_deal d o) ≡ signed_volume o +ℤ for_side (is_buy d.kind) d.volume
after-deal-volume d None = omega (arith, ints)
after-deal-volume d (Some p) = dealt-volume d p

-- a change of a position that keeps its ticket, its side and its volume
pub quiet-key : (f : Position → Position) (u : ℕ) (o : Option Position) → ((p : Position) → (f p).ticket ≡ p.ticket) → KeyIs position_ticket u o → KeyIs position_ticket u (option_map f o)
quiet-key f u None e k = tt
quiet-key f u (Some p) e k = e p ∙ k

quiet-volume : (f : Position → Position) (o : Option Position) → ((p : Position) → for_side (f p).buy (f p).volume ≡ for_side p.buy p.volume) → signed_volume (option_map f o) ≡ signed_volume o +ℤ pos 0
quiet-volume f None e = refl
quiet-volume f (Some p) e = e p ∙ omega (arith, ints)

none_of : (b : Bool) → cond b (pos 0) (pos 0) ≡ pos 0
none_of true = refl
none_of false = refl

-- what an event adds to the signed volume of a position
abbrev pub share_of : ℕ → Option Deal → ℤ
share_of t None = pos 0
share_of t (Some d) = share t d

pub volume-step : (t : ℕ) (ps : List Position) (e : Event) → signed_volume (item position_ticket t (positions_after ps e)) ≡ signed_volume (item position_ticket t ps) +ℤ share_of t (deal_of e)
volume-step t ps (Added d) =
    elim (is_balance d.kind) as (λ b. signed_volume (item position_ticket t (cond b ps (put position_ticket d.position (after_deal d (item position_ticket d.position ps)) ps))) ≡ signed_volume (item position_ticket t ps) +ℤ cond b (pos 0) (cond (eqb d.position t) (for_side (is_buy d.kind) d.volume) (pos 0))) [
      | true ↦ omega (arith, ints)
      | false ↦ volume-put t d.position ps _ (for_side (is_buy d.kind) d.volume) (after-deal-key d _ (item_key position_ticket d.position ps)) (after-deal-volume d (item position_ticket d.position ps))
    ]
volume-step t ps (Stops u sl tp) =
    volume-put t u ps _ (pos 0) (quiet-key _ u (item position_ticket u ps) (λ p. refl) (item_key position_ticket u ps)) (quiet-volume _ (item position_ticket u ps) (λ p. refl)) ∙ ap (λ z. signed_volume (item position_ticket t ps) +ℤ z) (none_of (eqb u t))
volume-step t ps (Swap u amount) =
    volume-put t u ps _ (pos 0) (quiet-key _ u (item position_ticket u ps) (λ p. refl) (item_key position_ticket u ps)) (quiet-volume _ (item position_ticket u ps) (λ p. refl)) ∙ ap (λ z. signed_volume (item position_ticket t ps) +ℤ z) (none_of (eqb u t))
volume-step t ps (Placed o) = omega (arith, ints)
volume-step t ps (Modified o) = omega (arith, ints)
volume-step t ps (Removed u cause) = omega (arith, ints)
volume-step t ps (Triggered u) = omega (arith, ints)

joined : (a b z : ℤ) (t : ℕ) (o : Option Deal) (ds : List Deal) → a ≡ b +ℤ share_of t o → z ≡ total (share t) ds → a +ℤ z ≡ b +ℤ total (share t) (cons_option o ds)
joined a b z t None ds e f = omega (arith, ints)
joined a b z t (Some d) ds e f = omega (arith, ints)

pub volume-over : (t : ℕ) (ps : List Position) (es : List Event) → signed_volume (item position_ticket t (fold positions_after ps es)) ≡ signed_volume (item position_ticket t ps) +ℤ total (share t) (deals es)
volume-over t ps [] = omega (arith, ints)
volume-over t ps (e ∷ es) =
    volume-over t (positions_after ps e) es ∙ joined (signed_volume (item position_ticket t (positions_after ps e))) (signed_volume (item position_ticket t ps)) (total (share t) (deals es)) t (deal_of e) (deals es) (volume-step t ps e) refl

-- the signed volume of a position is the signed sum of its deals
pub volume-is : (t : ℕ) (es : List Event) → signed_volume (item position_ticket t (open_positions es)) ≡ total (share t) (deals es)
volume-is t es = volume-over t [] es ∙ omega (arith, ints)

-- what an event adds to the balance
abbrev pub net_of : Option Deal → ℤ
net_of None = pos 0
net_of (Some d) = net d

-- the balance is all profits, swaps and commissions
pub sums : (ds : List Deal) → total net ds ≡ total profit_of ds +ℤ total swap_of ds +ℤ total commission_of ds
unfolding net
sums [] = refl
sums (d ∷ ds) = omega (arith, ints, sums ds)

pub balance-is : (es : List Event) → balance es ≡ total profit_of (deals es) +ℤ total swap_of (deals es) +ℤ total commission_of (deals es)
balance-is es = sums (deals es)
