-- What a close-by leaves.
use Rattle.std.proofs.Common.{◌≡◌, ◌∙◌, ℕ, ◌+◌, ◌^◌, ◌<◌, ◌≤◌, ◌++◌, Bool, true, false, not, cond, eqb, List, length, fold, Option, Some, None, Result, Ok, Err, ℤ, pos, ◌<ℤ◌, int_lt, FitsSigned, refl, ap, sym, subst, arith, rules}
use Rattle.std.specs.Prelude.{IfSome, MatchBool, is_some, ◌&&◌}
use Rattle.std.specs.Bool.{⊤}
use Rattle.std.specs.Int.{w64}
use Rattle.market_types.specs.declared.symbol_spec.SymbolSpec.{SymbolSpec}
use Rattle.account.specs.declared.deal.Deal.{Deal}
use Rattle.account.specs.declared.position.Position.{Position}
use Rattle.account.specs.declared.event.Event.{Event}
use Rattle.account.specs.declared.event.Event.TheVariants.{Added}
use Rattle.account.specs.Keyed.{item, put, KeyIs}
use Rattle.account.specs.Positions.{position_ticket, same_side, is_balance, after_deal, positions_after}
use Rattle.account.specs.Ranges.{IsHeld, MayDeal, KeepsTypes}
use Rattle.account.proofs.Keys.{item_key, item-put-other}
use Rattle.account.proofs.Conserved.{after-deal-key}
use Rattle.account.proofs.Found.{all_item}
use Rattle.account.proofs.Steps.{rising_after}
use Rattle.positions.specs.declared.fill.Fill.{Fill}
use Rattle.positions.specs.declared.fill.FillFault.{FillFault}
use Rattle.positions.specs.declared.fill.FillFault.TheVariants as fault
use Rattle.positions.specs.declared.by_opposite.Pair.{Pair}
use Rattle.positions.specs.Fills.{closed, deal_on, Leaves}
use Rattle.positions.specs.CloseBy.{IsJudged, against, deal_by, common, first_deal, second_deal, both_events, are_opposite, closed_both, closed_by}
use Rattle.positions.specs.Acts.{IsOpen}
use Rattle.positions.proofs.Filling.{may_deal, not_balance}
use Rattle.positions.proofs.Filled.{held_deal}
use Rattle.positions.proofs.Lengths.{open_length}

pub other_side : (b : Bool) → same_side b (not b) ≡ false
other_side true = refl
other_side false = refl

own_side : (b : Bool) → same_side b b ≡ true
own_side true = refl
own_side false = refl

-- the smaller volume is some, and a double
pub common_some : (p q : Position) → IsHeld p → IsHeld q → pos 0 <ℤ common p q
common_some p q h k = elim (int_lt p.volume q.volume) as (λ b. pos 0 <ℤ cond b p.volume q.volume) [ true ↦ h.some | false ↦ k.some ]

pub common_fits : (p q : Position) → IsHeld p → IsHeld q → FitsSigned w64 (common p q)
common_fits p q h k = elim (int_lt p.volume q.volume) as (λ b. FitsSigned w64 (cond b p.volume q.volume)) [ true ↦ h.volume | false ↦ k.volume ]

-- a deal on the other side of a position keeps the types of its numbers
against_may : (specs : List SymbolSpec) (at : Fill) (p : Position) (n : ℕ) (v a : ℤ) → IsHeld p → pos 0 <ℤ v → FitsSigned w64 v → FitsSigned w64 a → MayDeal (deal_by specs (against at p n v a) p) (Some p)
against_may specs at p n v a h s f g =
    let e : same_side p.buy (not p.buy) ≡ false = other_side p.buy in
    let d : deal_on specs (against at p n v a) (Some p) ≡ closed specs (against at p n v a) p = rw e refl in
    subst (λ (x : Deal). MayDeal x (Some p)) d (may_deal specs (against at p n v a) (Some p) s f g h (λ t. cc))

keeps : (ps : List Position) (d : Deal) (p : Position) → is_balance d.kind ≡ false → item position_ticket d.position ps ≡ Some p → MayDeal d (Some p) → KeepsTypes ps (Added d)
keeps ps d p b e m =
    subst (λ (x : Bool). MatchBool x ⊤ (MayDeal d (item position_ticket d.position ps))) (sym b) (subst (λ (o : Option Position). MayDeal d o) (sym e) m)

-- a deal on a position that is open leaves open positions
pub open_after : (ps : List Position) (d : Deal) (p : Position) → IsOpen ps → item position_ticket d.position ps ≡ Some p → KeepsTypes ps (Added d) → IsOpen (positions_after ps (Added d))
open_after ps d p o e k =
    let l : length (positions_after ps (Added d)) ≤ length ps = open_length ps d p e in
    record { rising = rising_after ps (Added d) o.rising; held = held_deal ps d o.held k; few = let f : length ps < 2 ^ 32 = o.few in omega (arith, l, f) }

-- opposite positions have other tickets
pub apart : (ps : List Position) (p q : Position) → item position_ticket p.ticket ps ≡ Some p → item position_ticket q.ticket ps ≡ Some q → same_side p.buy q.buy ≡ false → eqb p.ticket q.ticket ≡ false
apart ps p q e f s =
    (elim (eqb p.ticket q.ticket) as (λ b. eqb p.ticket q.ticket ≡ b → b ≡ false) [
      | true ↦ λ g.
          let t : p.ticket ≡ q.ticket = grind arith in
          let same : Some p ≡ Some q = sym e ∙ ap (λ (n : ℕ). item position_ticket n ps) t ∙ f in
          let one : p ≡ q = grind rules in
          let k : same_side p.buy p.buy ≡ false = ap (λ (x : Position). same_side p.buy x.buy) one ∙ s in
          absurd (own_not p.buy k)
      | false ↦ λ g. refl
    ]) refl
  where
    own_not : (b : Bool) → same_side b b ≡ false → ⊥
    own_not true h = cc
    own_not false h = cc

-- what stands at the ticket of an item
pub item_ticket : (ps : List Position) (n : ℕ) (p : Position) → item position_ticket n ps ≡ Some p → item position_ticket p.ticket ps ≡ Some p
item_ticket ps n p h =
    let k : KeyIs position_ticket n (Some p) = subst (λ (o : Option Position). KeyIs position_ticket n o) h (item_key position_ticket n ps) in
    subst (λ (t : ℕ). item position_ticket t ps ≡ Some p) (sym k) h

pub item_held : (ps : List Position) (n : ℕ) (p : Position) → IsOpen ps → item position_ticket n ps ≡ Some p → IsHeld p
item_held ps n p o e = subst (λ (x : Option Position). IfSome x IsHeld) e (all_item IsHeld position_ticket n ps o.held)

-- what both deals of a close-by find and leave
pub record Closes (ps : List Position) (d e : Deal) : Type 0 where
  pub first_open : is_some (item position_ticket d.position ps) ≡ true
  pub first_types : KeepsTypes ps (Added d)
  pub second_open : is_some (item position_ticket e.position (positions_after ps (Added d))) ≡ true
  pub second_types : KeepsTypes (positions_after ps (Added d)) (Added e)
  pub left : IsOpen (positions_after (positions_after ps (Added d)) (Added e))

-- another position stands as it was
pub still : (ps : List Position) (d : Deal) (t : ℕ) (q : Position) → is_balance d.kind ≡ false → eqb d.position t ≡ false → item position_ticket t ps ≡ Some q → item position_ticket t (positions_after ps (Added d)) ≡ Some q
still ps d t q b n e =
    subst (λ (x : Bool). item position_ticket t (cond x ps (put position_ticket d.position (after_deal d (item position_ticket d.position ps)) ps)) ≡ Some q) (sym b)
    (item-put-other position_ticket d.position t (after_deal d (item position_ticket d.position ps)) ps (after-deal-key d (item position_ticket d.position ps) (item_key position_ticket d.position ps)) n ∙ e)

closes_by : (ps : List Position) (d e : Deal) (p q : Position) → IsOpen ps → is_balance d.kind ≡ false → is_balance e.kind ≡ false → item position_ticket d.position ps ≡ Some p → item position_ticket e.position ps ≡ Some q → eqb d.position e.position ≡ false → MayDeal d (Some p) → MayDeal e (Some q) → Closes ps d e
closes_by ps d e p q o b c g h n m k =
    let first : KeepsTypes ps (Added d) = keeps ps d p b g m in
    let there : item position_ticket e.position (positions_after ps (Added d)) ≡ Some q = still ps d e.position q b n h in
    let second : KeepsTypes (positions_after ps (Added d)) (Added e) = keeps (positions_after ps (Added d)) e q c there k in
    record {
      first_open = rw g refl;
      first_types = first;
      second_open = ap (λ (x : Option Position). is_some x) there;
      second_types = second;
      left = open_after (positions_after ps (Added d)) e q (open_after ps d p o g first) there second;
    }

closes_two : (specs : List SymbolSpec) (at : Fill) (ps : List Position) (one other : ℕ) (p q : Position) → IsOpen ps → item position_ticket one ps ≡ Some p → item position_ticket other ps ≡ Some q → are_opposite p q ≡ true → Closes ps (first_deal specs at p q) (second_deal specs at p q)
closes_two specs at ps one other p q o g h a =
    let e : item position_ticket p.ticket ps ≡ Some p = item_ticket ps one p g in
    let f : item position_ticket q.ticket ps ≡ Some q = item_ticket ps other q h in
    let hp : IsHeld p = item_held ps one p o g in
    let hq : IsHeld q = item_held ps other q o h in
    let s : same_side p.buy q.buy ≡ false = sides (eqb p.symbol q.symbol) (same_side p.buy q.buy) a in
    closes_by ps (first_deal specs at p q) (second_deal specs at p q) p q o (not_balance (not p.buy)) (not_balance (not q.buy)) e f (apart ps p q e f s)
    (against_may specs at p at.deal (common p q) q.price hp (common_some p q hp hq) (common_fits p q hp hq) hq.price)
    (against_may specs at q (at.deal + 1) (common p q) q.price hq (common_some p q hp hq) (common_fits p q hp hq) hq.price)
  where
    sides : (a b : Bool) → (a && not b) ≡ true → b ≡ false
    sides true true h = cc
    sides true false h = refl
    sides false b h = cc

of_two : (d e d' e' : Deal) → both_events d e ≡ both_events d' e' → (d ≡ d') × (e ≡ e')
of_two d e d' e' h = (grind rules, grind rules)

closed_two : (specs : List SymbolSpec) (at : Fill) (ps : List Position) (one other : ℕ) (d e : Deal) (x y : Option Position) → IsOpen ps → item position_ticket one ps ≡ x → item position_ticket other ps ≡ y → closed_both specs at x y ≡ Ok (both_events d e) → Closes ps d e
closed_two specs at ps one other d e None y o g h r = cc
closed_two specs at ps one other d e (Some p) None o g h r = cc
closed_two specs at ps one other d e (Some p) (Some q) o g h r =
    (elim (are_opposite p q) as (λ b. are_opposite p q ≡ b → cond b (Ok (both_events (first_deal specs at p q) (second_deal specs at p q))) (Err fault.WrongSide) ≡ Ok (both_events d e) → Closes ps d e) [
      | true ↦ λ a k. let same : both_events (first_deal specs at p q) (second_deal specs at p q) ≡ both_events d e = grind rules in
          let parts : (first_deal specs at p q ≡ d) × (second_deal specs at p q ≡ e) = of_two (first_deal specs at p q) (second_deal specs at p q) d e same in
          subst (λ (z : Deal). Closes ps z e) parts.0 (subst (λ (z : Deal). Closes ps (first_deal specs at p q) z) parts.1 (closes_two specs at ps one other p q o g h a))
      | false ↦ λ a k. cc
    ]) refl r

-- the deals of a close-by find both positions and leave open ones
pub closes : (specs : List SymbolSpec) (at : Fill) (ps : List Position) (one other : ℕ) (d e : Deal) → IsOpen ps → closed_by true specs ps one other at ≡ Ok (both_events d e) → Closes ps d e
closes specs at ps one other d e o r = closed_two specs at ps one other d e (item position_ticket one ps) (item position_ticket other ps) o refl refl r

-- both deals that are found are those of the close-by
pub found_both : (r : Result (List Event) FillFault) (pair : Pair) → IsJudged r (Ok pair) → r ≡ Ok (both_events pair.first pair.second)
found_both (Ok es) pair h = ap (λ (xs : List Event). Ok xs) (sym h)
found_both (Err e) pair h = absurd h

-- what both deals leave
pub leaves_both : {X : Type 0} (r : Result (List Event) FillFault) (done : X) (pair : Pair) (ps ps' : List Position) (out out' : List Event) → IsJudged r (Ok pair) → out' ≡ out ++ both_events pair.first pair.second → ps' ≡ positions_after (positions_after ps (Added pair.first)) (Added pair.second) → Leaves r (Ok done) ps ps' out out'
leaves_both (Ok es) done pair ps ps' out out' h e p = (e ∙ ap (λ (xs : List Event). out ++ xs) h, p ∙ ap (λ (xs : List Event). fold positions_after ps xs) h)
leaves_both (Err f) done pair ps ps' out out' h e p = absurd h

-- a position that is looked up is held
pub held_found : (ps : List Position) (n : ℕ) (p : Position) → IsOpen ps → Some p ≡ item position_ticket n ps → IsHeld p
held_found ps n p o e = item_held ps n p o (sym e)

-- the same positions, in other words
pub judged_at : (specs : List SymbolSpec) (at : Fill) (ps qs : List Position) (one other : ℕ) (pair : Pair) → qs ≡ ps → IsJudged (closed_by true specs qs one other at) (Ok pair) → IsJudged (closed_by true specs ps one other at) (Ok pair)
judged_at specs at ps qs one other pair e h = subst (λ (xs : List Position). IsJudged (closed_by true specs xs one other at) (Ok pair)) e h

-- the deals that are found find both positions and leave open ones
pub found_closes : (specs : List SymbolSpec) (at : Fill) (ps qs : List Position) (one other : ℕ) (pair : Pair) → IsOpen ps → qs ≡ ps → IsJudged (closed_by true specs qs one other at) (Ok pair) → Closes ps pair.first pair.second
found_closes specs at ps qs one other pair o e h = closes specs at ps one other pair.first pair.second o (found_both (closed_by true specs ps one other at) pair (judged_at specs at ps qs one other pair e h))
