-- What a call of `fill` leaves.
use Rattle.std.proofs.Common.{◌≡◌, ◌∙◌, ℕ, Bool, true, false, cond, List, fold, Option, Some, None, ℤ, pos, ◌+ℤ◌, ◌<ℤ◌, FitsSigned, refl, ap, sym, subst, All, is_none, int_lt}
use Rattle.std.specs.Prelude.{IfSome, MatchBool}
use Rattle.std.specs.Bool.{⊤}
use Rattle.std.specs.Int.{w64, w128}
use Rattle.std.specs.Option.{option_map}
use Rattle.market_types.specs.declared.symbol_spec.SymbolSpec.{SymbolSpec}
use Rattle.account.specs.declared.deal.Deal.{Deal}
use Rattle.account.specs.declared.position.Position.{Position}
use Rattle.account.specs.declared.event.Event.{Event}
use Rattle.account.specs.declared.event.Event.TheVariants.{Added, Stops, Swap}
use Rattle.account.specs.Keyed.{item, put}
use Rattle.account.specs.Positions.{position_ticket, positions_after, is_balance, is_buy, same_side, added, reduced, reversed, dealt, after_deal, with_stops, with_swap}
use Rattle.account.specs.Ranges.{IsHeld, MayDeal, KeepsTypes}
use Rattle.account.proofs.Found.{all_put, all_item}
use Rattle.positions.specs.declared.fill.Fill.{Fill}
use Rattle.positions.specs.declared.acts.Change.{Change}
use Rattle.positions.specs.Fills.{deal_on, levels_of, stops_event, met, MayAdd}
use Rattle.positions.specs.Acts.{IsOpen, change_events, differing}
use Rattle.positions.specs.declared.fill.Levels.{Levels}
use Rattle.positions.proofs.Filling.{deal_kind, met_item, may_deal, not_balance}

-- the position that a fill meets is held
pub met_held : (hedging : Bool) (specs : List SymbolSpec) (f : Fill) (ps : List Position) → IsOpen ps → (met hedging ps f ≡ None → item position_ticket f.order ps ≡ None) → IfSome (met hedging ps f) IsHeld
met_held hedging specs f ps o fresh = subst (λ (x : Option Position). IfSome x IsHeld) (met_item hedging specs ps f o.rising fresh) (all_item IsHeld position_ticket (deal_on specs f (met hedging ps f)).position ps o.held)

pub met_held_at : (hedging : Bool) (specs : List SymbolSpec) (f : Fill) (ps ps' : List Position) → ps' ≡ ps → IsOpen ps → (met hedging ps f ≡ None → item position_ticket f.order ps ≡ None) → IfSome (met hedging ps' f) IsHeld
met_held_at hedging specs f ps ps' e o fresh = subst (λ (xs : List Position). IfSome (met hedging xs f) IsHeld) (sym e) (met_held hedging specs f ps o fresh)

-- the deal of a fill keeps the types of its position
pub fill_types : (hedging : Bool) (specs : List SymbolSpec) (f : Fill) (ps : List Position) (d : Deal) → IsOpen ps → pos 0 <ℤ f.volume → FitsSigned w64 f.volume → FitsSigned w64 f.price → (met hedging ps f ≡ None → item position_ticket f.order ps ≡ None) → MayAdd f (met hedging ps f) → d ≡ deal_on specs f (met hedging ps f) → KeepsTypes ps (Added d)
fill_types hedging specs f ps d o s v g fresh m e =
    let held : IfSome (met hedging ps f) IsHeld = met_held hedging specs f ps o fresh in
    let may : MayDeal (deal_on specs f (met hedging ps f)) (met hedging ps f) = may_deal specs f (met hedging ps f) s v g held m in
    let named : MayDeal (deal_on specs f (met hedging ps f)) (item position_ticket (deal_on specs f (met hedging ps f)).position ps) = subst (λ (x : Option Position). MayDeal (deal_on specs f (met hedging ps f)) x) (sym (met_item hedging specs ps f o.rising fresh)) may in
    let trade : is_balance (deal_on specs f (met hedging ps f)).kind ≡ false = ap is_balance (deal_kind specs f (met hedging ps f)) ∙ not_balance f.buy in
    subst (λ (x : Deal). KeepsTypes ps (Added x)) (sym e)
    (subst (λ (b : Bool). MatchBool b ⊤ (MayDeal (deal_on specs f (met hedging ps f)) (item position_ticket (deal_on specs f (met hedging ps f)).position ps))) (sym trade) named)

pub fill_types_at : (hedging : Bool) (specs : List SymbolSpec) (f : Fill) (ps ps1 ps2 : List Position) (d : Deal) → ps1 ≡ ps → ps2 ≡ ps → IsOpen ps → pos 0 <ℤ f.volume → FitsSigned w64 f.volume → FitsSigned w64 f.price → (met hedging ps f ≡ None → item position_ticket f.order ps ≡ None) → MayAdd f (met hedging ps f) → d ≡ deal_on specs f (met hedging ps2 f) → KeepsTypes ps1 (Added d)
fill_types_at hedging specs f ps ps1 ps2 d e1 e2 o s v g fresh m e =
    subst (λ (xs : List Position). KeepsTypes xs (Added d)) (sym e1) (fill_types hedging specs f ps d o s v g fresh m (e ∙ ap (λ (xs : List Position). deal_on specs f (met hedging xs f)) e2))

by_kind : (b : Bool) (P : Type 0) (xs ys : List Position) → MatchBool b ⊤ P → All IsHeld xs → (P → All IsHeld ys) → All IsHeld (cond b xs ys)
by_kind true P xs ys m h f = h
by_kind false P xs ys m h f = f m

pub held_deal : (ps : List Position) (d : Deal) → All IsHeld ps → KeepsTypes ps (Added d) → All IsHeld (positions_after ps (Added d))
held_deal ps d h k = by_kind (is_balance d.kind) (MayDeal d (item position_ticket d.position ps)) ps (put position_ticket d.position (after_deal d (item position_ticket d.position ps)) ps) k h
    (λ m. all_put IsHeld position_ticket d.position (after_deal d (item position_ticket d.position ps)) ps h m.1)

stopped : (sl tp : ℤ) (o : Option Position) → IfSome o IsHeld → IfSome (option_map (with_stops sl tp) o) IsHeld
stopped sl tp None h = tt
stopped sl tp (Some p) h = record { some = h.some; volume = h.volume; price = h.price; swap = h.swap }

pub held_stops : (ps : List Position) (t : ℕ) (sl tp : ℤ) → All IsHeld ps → All IsHeld (positions_after ps (Stops t sl tp))
held_stops ps t sl tp h = all_put IsHeld position_ticket t (option_map (with_stops sl tp) (item position_ticket t ps)) ps h (stopped sl tp (item position_ticket t ps) (all_item IsHeld position_ticket t ps h))

swapped : (amount : ℤ) (o : Option Position) → IfSome o IsHeld → IfSome o (λ p. FitsSigned w128 (p.swap +ℤ amount)) → IfSome (option_map (with_swap amount) o) IsHeld
swapped amount None h k = tt
swapped amount (Some p) h k = record { some = h.some; volume = h.volume; price = h.price; swap = k }

pub held_swap : (ps : List Position) (t : ℕ) (amount : ℤ) → All IsHeld ps → KeepsTypes ps (Swap t amount) → All IsHeld (positions_after ps (Swap t amount))
held_swap ps t amount h k = all_put IsHeld position_ticket t (option_map (with_swap amount) (item position_ticket t ps)) ps h (swapped amount (item position_ticket t ps) (all_item IsHeld position_ticket t ps h) k)

-- all are held after a deal and a change of stops
pub held_act : (ps ps' : List Position) (d : Deal) (c : Option Change) → All IsHeld ps → KeepsTypes ps (Added d) → ps' ≡ fold positions_after (positions_after ps (Added d)) (change_events c) → All IsHeld ps'
held_act ps ps' d None h k e = subst (λ (xs : List Position). All IsHeld xs) (sym e) (held_deal ps d h k)
held_act ps ps' d (Some c) h k e = subst (λ (xs : List Position). All IsHeld xs) (sym e) (held_stops (positions_after ps (Added d)) c.ticket c.sl c.tp (held_deal ps d h k))

kept_stops : (d : Deal) (p : Position) (l : Levels) (a b c : Bool) → is_none (cond a (Some (added d p)) (cond b (Some (reduced d p)) (cond c (Some (reversed d p)) None))) ≡ false → differing p.ticket p.sl p.tp l ≡ stops_event (cond a (Some (added d p)) (cond b (Some (reduced d p)) (cond c (Some (reversed d p)) None))) l
kept_stops d p l true b c h = refl
kept_stops d p l false true c h = refl
kept_stops d p l false false true h = refl
kept_stops d p l false false false h = cc

-- a deal that leaves a position leaves its stops
pub stops_left : (f : Fill) (d : Deal) (o : Option Position) (p : Position) (l : Levels) (b : Bool) (es : List Event) → o ≡ Some p → l ≡ levels_of f o → b ≡ is_none (dealt d p) → b ≡ false → es ≡ differing p.ticket p.sl p.tp l → es ≡ stops_event (after_deal d o) (levels_of f o)
stops_left f d o p l b es oe le be bf e =
    e ∙ kept_stops d p l (same_side p.buy (is_buy d.kind)) (int_lt d.volume p.volume) (int_lt p.volume d.volume) (sym be ∙ bf)
    ∙ ap (λ (x : Option Position). stops_event (after_deal d x) l) (sym oe) ∙ ap (λ (x : Levels). stops_event (after_deal d o) x) le
