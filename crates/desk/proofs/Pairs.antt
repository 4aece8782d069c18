-- The deals of a close-by may be added one after the other.
use Rattle.std.proofs.Common.{◌≡◌, ℕ, ◌+◌, ◌<◌, ◌≤◌, ◌++◌, Bool, true, false, not, cond, eqb, List, [], ◌∷◌, length, Option, Some, None, ℤ, pos, ◌≤ℤ◌, ◌<ℤ◌, int_lt, FitsSigned, refl, subst, arith, ◌&&◌}
use Rattle.std.specs.Int.{w64}
use Rattle.std.specs.Prelude.{IfSome}
use Rattle.std.proofs.lemmas.Int.{ints}
use Rattle.account.specs.declared.account_spec.AccountSpec.{AccountSpec}
use Rattle.account.specs.declared.deal.Deal.{Deal}
use Rattle.account.specs.declared.deal.DealEntry.{DealEntry}
use Rattle.account.specs.declared.position.Position.{Position}
use Rattle.account.specs.declared.event.Event.{Event}
use Rattle.account.specs.declared.event.Event.TheVariants.{Added}
use Rattle.account.specs.Deals.{deals, net}
use Rattle.account.specs.Keyed.{item}
use Rattle.account.specs.Positions.{position_ticket, same_side, after_deal, open_positions}
use Rattle.account.specs.Ranges.{IsHeld}
use Rattle.account.specs.StopOut.{PriceList}
use Rattle.account.proofs.Found.{all_item}
use Rattle.account.proofs.Kept.{open_more}
use Rattle.positions.specs.declared.fill.Fill.{Fill}
use Rattle.positions.specs.Fills.{closed, deal_on}
use Rattle.positions.specs.CloseBy.{against, deal_by, common, first_deal, second_deal, both_events, are_opposite}
use Rattle.positions.proofs.Closing.{other_side, common_some, common_fits, apart, still, item_ticket}
use Rattle.positions.proofs.Filling.{not_balance}
use Rattle.desk.specs.Sound.{IsKept, IsSound, MayFill, MayTrade, MayFollow, AreQuoted}
use Rattle.desk.specs.Tickets.{last_order}
use Rattle.desk.proofs.Entered.{sound_more, count_more}
use Rattle.desk.proofs.Fits.{trade_on}

-- what a deal leaves does not go by its entry
redealt : (d : Deal) (e : DealEntry) (o : Option Position) → after_deal (record d { entry = e }) o ≡ after_deal d o
redealt d e None = refl
redealt d e (Some p) = refl

by_entry : (spec : AccountSpec) (prices : PriceList) (times : List (Option ℤ)) (es : List Event) (d : Deal) (e : DealEntry) → MayTrade spec prices times es d → MayTrade spec prices times es (record d { entry = e })
unfolding net
by_entry spec prices times es d e m = record {
  trade = m.trade;
  few = m.few;
  symbol = m.symbol;
  same = m.same;
  types = (m.types.0, rw (redealt d e (item position_ticket d.position (open_positions es))) m.types.1);
  left = rw (redealt d e (item position_ticket d.position (open_positions es))) m.left;
  small = m.small;
  alone = m.alone;
  sole = λ h. rw (redealt d e (item position_ticket d.position (open_positions es))) (m.sole h);
}

common_most : (p q : Position) → common p q ≤ℤ p.volume
common_most p q = (elim (int_lt p.volume q.volume) as (λ b. int_lt p.volume q.volume ≡ b → cond b p.volume q.volume ≤ℤ p.volume) [
  | true ↦ λ e. omega (arith, ints)
  | false ↦ λ e. grind (arith, ints)
]) refl

common_most_other : (p q : Position) → common p q ≤ℤ q.volume
common_most_other p q = (elim (int_lt p.volume q.volume) as (λ b. int_lt p.volume q.volume ≡ b → cond b p.volume q.volume ≤ℤ q.volume) [
  | true ↦ λ e. grind (arith, ints)
  | false ↦ λ e. omega (arith, ints)
]) refl

-- a fill that closes a part of a position, or all
against_may : (spec : AccountSpec) (prices : PriceList) (times : List (Option ℤ)) (last n : ℕ) (at : Fill) (p : Position) (deal : ℕ) (v a : ℤ) → IsKept spec prices times last n p → pos 0 <ℤ v → FitsSigned w64 v → FitsSigned w64 a → v ≤ℤ p.volume → n ≤ 50000 → MayFill spec prices (against at p deal v a) (Some p)
against_may spec prices times last n at p deal v a k s f g m l = record {
  symbol = k.symbol;
  priced = k.priced;
  some = s;
  modest = (λ e. let o : same_side p.buy (not p.buy) ≡ false = other_side p.buy in cc, λ x. absurd (omega (arith, ints, m, x)));
  volume = f;
  bounded = omega (arith, ints, m, l, k.volume);
  price = g;
  same = refl;
}

-- the deal of a close-by on a position
deal_may : (spec : AccountSpec) (prices : PriceList) (times : List (Option ℤ)) (es : List Event) (at : Fill) (p : Position) (deal : ℕ) (v a : ℤ) → AreQuoted spec prices times → IsSound spec prices times es → length (deals es) < 50000 → item position_ticket p.ticket (open_positions es) ≡ Some p → pos 0 <ℤ v → FitsSigned w64 v → FitsSigned w64 a → v ≤ℤ p.volume → MayTrade spec prices times es (deal_by spec.specs (against at p deal v a) p)
deal_may spec prices times es at p deal v a q s l e sv fv fa m =
    let o : same_side p.buy (not p.buy) ≡ false = other_side p.buy in
    let c : deal_on spec.specs (against at p deal v a) (Some p) ≡ closed spec.specs (against at p deal v a) p = rw o refl in
    let k : IsKept spec prices times (last_order es) (length (deals es)) p = subst (λ (x : Option Position). IfSome x (IsKept spec prices times (last_order es) (length (deals es)))) e (all_item (IsKept spec prices times (last_order es) (length (deals es))) position_ticket p.ticket (open_positions es) s.positions) in
    let t : MayTrade spec prices times es (deal_on spec.specs (against at p deal v a) (Some p)) = trade_on spec prices times es (against at p deal v a) (Some p) q s l (against_may spec prices times (last_order es) (length (deals es)) at p deal v a k sv fv fa m (omega (arith, l))) (rw c e) (λ n. cc) (λ n. cc) (λ h n. cc) in
    by_entry spec prices times es (closed spec.specs (against at p deal v a) p) _ (subst (λ (d : Deal). MayTrade spec prices times es d) c t)

kept_item : (spec : AccountSpec) (prices : PriceList) (times : List (Option ℤ)) (es : List Event) (t : ℕ) (p : Position) → IsSound spec prices times es → item position_ticket t (open_positions es) ≡ Some p → IsHeld p
kept_item spec prices times es t p s e = (subst (λ (x : Option Position). IfSome x (IsKept spec prices times (last_order es) (length (deals es)))) e (all_item (IsKept spec prices times (last_order es) (length (deals es))) position_ticket t (open_positions es) s.positions)).held

sides : (a b : Bool) → (a && not b) ≡ true → b ≡ false
sides true true h = cc
sides true false h = refl
sides false b h = cc

-- both deals
pub pair_follows : (spec : AccountSpec) (prices : PriceList) (times : List (Option ℤ)) (es : List Event) (at : Fill) (one other : ℕ) (p r : Position) → AreQuoted spec prices times → IsSound spec prices times es → length (deals es) + 1 < 50000 → item position_ticket one (open_positions es) ≡ Some p → item position_ticket other (open_positions es) ≡ Some r → are_opposite p r ≡ true → MayFollow spec prices times es (both_events (first_deal spec.specs at p r) (second_deal spec.specs at p r))
pair_follows spec prices times es at one other p r q s l g h a =
    let ps : List Position = open_positions es in
    let d : Deal = first_deal spec.specs at p r in
    let e : item position_ticket p.ticket ps ≡ Some p = item_ticket ps one p g in
    let f : item position_ticket r.ticket ps ≡ Some r = item_ticket ps other r h in
    let hp : IsHeld p = kept_item spec prices times es p.ticket p s e in
    let hr : IsHeld r = kept_item spec prices times es r.ticket r s f in
    let side : same_side p.buy r.buy ≡ false = sides (eqb p.symbol r.symbol) (same_side p.buy r.buy) a in
    let first : MayTrade spec prices times es d = deal_may spec prices times es at p at.deal (common p r) r.price q s (omega (arith, l)) e (common_some p r hp hr) (common_fits p r hp hr) hr.price (common_most p r) in
    let sound : IsSound spec prices times (es ++ Added d ∷ []) = sound_more spec prices times es (Added d) q s first in
    let there : item position_ticket r.ticket (open_positions (es ++ Added d ∷ [])) ≡ Some r = rw (open_more es (Added d)) (still ps d r.ticket r (not_balance (not p.buy)) (apart ps p r e f side) f) in
    let few : length (deals (es ++ Added d ∷ [])) < 50000 = rw (count_more es (Added d)) (omega (arith, l)) in
    (first, (deal_may spec prices times (es ++ Added d ∷ []) at r (at.deal + 1) (common p r) r.price q sound few there (common_some p r hp hr) (common_fits p r hp hr) hr.price (common_most_other p r), tt))
