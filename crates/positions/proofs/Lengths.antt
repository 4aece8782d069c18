-- How many positions an event leaves.
use Rattle.std.proofs.Common.{◌≡◌, ℕ, suc, ◌+◌, ◌^◌, ◌<◌, ◌≤◌, ◌++◌, true, false, cond, eqb, ltb, List, [], ◌∷◌, length, Option, Some, None, Result, Ok, Err, ℤ, refl, arith, ap, fold, option_to_list}
use Rattle.std.specs.Prelude.{OnOk, is_err}
use Rattle.std.specs.Option.{option_map}
use Rattle.std.proofs.lemmas.List.{length-append}
use Rattle.account.specs.declared.deal.Deal.{Deal}
use Rattle.account.specs.declared.position.Position.{Position}
use Rattle.account.specs.declared.event.Event.TheVariants.{Added, Stops, Swap}
use Rattle.account.specs.Keyed.{item, put, below, above}
use Rattle.account.specs.Positions.{position_ticket, positions_after, after_deal, is_balance, with_stops, with_swap}
use Rattle.positions.specs.declared.acts.Change.{Change}
use Rattle.positions.specs.Acts.{change_events}

-- the items of lower and of higher tickets, and that of the ticket
parts : {X : Type 0} (key : X → ℕ) (t : ℕ) (xs : List X) → length (below ltb key t xs) + length (above ltb key t xs) + length (option_to_list (item key t xs)) ≤ length xs
parts key t [] = omega arith
parts {X} key t (x ∷ xs) =
    let h : length (below ltb key t xs) + length (above ltb key t xs) + length (option_to_list (item key t xs)) ≤ length xs = parts key t xs in
    (elim (ltb (key x) t) as (λ a. ltb (key x) t ≡ a → length (cond a (x ∷ below ltb key t xs) (below ltb key t xs)) + length (cond (ltb t (key x)) (x ∷ above ltb key t xs) (above ltb key t xs)) + length (option_to_list (cond (eqb (key x) t) (Some x) (item key t xs))) ≤ suc (length xs)) [
      | true ↦ λ e. let g : ltb t (key x) ≡ false = grind arith in let f : eqb (key x) t ≡ false = grind arith in rw g (rw f (omega (arith, h)))
      | false ↦ λ e. (elim (ltb t (key x)) as (λ b. ltb t (key x) ≡ b → length (below ltb key t xs) + length (cond b (x ∷ above ltb key t xs) (above ltb key t xs)) + length (option_to_list (cond (eqb (key x) t) (Some x) (item key t xs))) ≤ suc (length xs)) [
        | true ↦ λ g. let f : eqb (key x) t ≡ false = grind arith in rw f (omega (arith, h))
        | false ↦ λ g. let f : eqb (key x) t ≡ true = grind arith in rw f (omega (arith, h))
      ]) refl
    ]) refl

-- a change at a ticket
put_length : {X : Type 0} (key : X → ℕ) (t : ℕ) (new : Option X) (xs : List X) → length (put key t new xs) + length (option_to_list (item key t xs)) ≤ length xs + length (option_to_list new)
put_length {X} key t new xs =
    let h : length (below ltb key t xs) + length (above ltb key t xs) + length (option_to_list (item key t xs)) ≤ length xs = parts key t xs in
    rw (length-append (below ltb key t xs ++ option_to_list new) (above ltb key t xs)) (rw (length-append (below ltb key t xs) (option_to_list new)) (omega (arith, h)))

at_most_one : {X : Type 0} (o : Option X) → length (option_to_list o) ≤ 1
at_most_one None = omega arith
at_most_one (Some x) = omega arith

map_length : {X : Type 0} (f : X → X) (o : Option X) → length (option_to_list (option_map f o)) ≡ length (option_to_list o)
map_length f None = refl
map_length f (Some x) = refl

-- a deal adds at most one position
pub dealt_length : (ps : List Position) (d : Deal) → length (positions_after ps (Added d)) ≤ length ps + 1
dealt_length ps d =
    let h : length (put position_ticket d.position (after_deal d (item position_ticket d.position ps)) ps) + length (option_to_list (item position_ticket d.position ps)) ≤ length ps + length (option_to_list (after_deal d (item position_ticket d.position ps))) = put_length position_ticket d.position (after_deal d (item position_ticket d.position ps)) ps in
    let k : length (option_to_list (after_deal d (item position_ticket d.position ps))) ≤ 1 = at_most_one (after_deal d (item position_ticket d.position ps)) in
    elim (is_balance d.kind) as (λ b. length (cond b ps (put position_ticket d.position (after_deal d (item position_ticket d.position ps)) ps)) ≤ length ps + 1) [
      | true ↦ omega arith
      | false ↦ omega (arith, h, k)
    ]

-- and none where its position is open
pub open_length : (ps : List Position) (d : Deal) (p : Position) → item position_ticket d.position ps ≡ Some p → length (positions_after ps (Added d)) ≤ length ps
open_length ps d p e =
    let h : length (put position_ticket d.position (after_deal d (item position_ticket d.position ps)) ps) + length (option_to_list (item position_ticket d.position ps)) ≤ length ps + length (option_to_list (after_deal d (item position_ticket d.position ps))) = put_length position_ticket d.position (after_deal d (item position_ticket d.position ps)) ps in
    let k : length (option_to_list (after_deal d (item position_ticket d.position ps))) ≤ 1 = at_most_one (after_deal d (item position_ticket d.position ps)) in
    let one : length (option_to_list (item position_ticket d.position ps)) ≡ 1 = ap (λ (o : Option Position). length (option_to_list o)) e in
    elim (is_balance d.kind) as (λ b. length (cond b ps (put position_ticket d.position (after_deal d (item position_ticket d.position ps)) ps)) ≤ length ps) [
      | true ↦ omega arith
      | false ↦ omega (arith, h, k, one)
    ]

-- a change of the position of a ticket adds none
pub changed_length : (t : ℕ) (f : Position → Position) (ps : List Position) → length (put position_ticket t (option_map f (item position_ticket t ps)) ps) ≤ length ps
changed_length t f ps =
    let h : length (put position_ticket t (option_map f (item position_ticket t ps)) ps) + length (option_to_list (item position_ticket t ps)) ≤ length ps + length (option_to_list (option_map f (item position_ticket t ps))) = put_length position_ticket t (option_map f (item position_ticket t ps)) ps in
    let k : length (option_to_list (option_map f (item position_ticket t ps))) ≡ length (option_to_list (item position_ticket t ps)) = map_length f (item position_ticket t ps) in
    omega (arith, h, k)

-- a deal and a change of stops, where there is room for one more
pub act_length : (ps ps' : List Position) (d : Deal) (c : Option Change) → length ps + 1 < 2 ^ 32 → ps' ≡ fold positions_after (positions_after ps (Added d)) (change_events c) → length ps' < 2 ^ 32
act_length ps ps' d None h e = let l : length (positions_after ps (Added d)) ≤ length ps + 1 = dealt_length ps d in rw e (omega (arith, h, l))
act_length ps ps' d (Some c) h e =
    let l : length (positions_after ps (Added d)) ≤ length ps + 1 = dealt_length ps d in
    let k : length (positions_after (positions_after ps (Added d)) (Stops c.ticket c.sl c.tp)) ≤ length (positions_after ps (Added d)) = changed_length c.ticket (with_stops c.sl c.tp) (positions_after ps (Added d)) in
    rw e (omega (arith, h, l, k))

-- other stops, or more accrued swap
pub stops_few : (ps ps' : List Position) (t : ℕ) (sl tp : ℤ) → length ps < 2 ^ 32 → ps' ≡ positions_after ps (Stops t sl tp) → length ps' < 2 ^ 32
stops_few ps ps' t sl tp h e = let l : length (positions_after ps (Stops t sl tp)) ≤ length ps = changed_length t (with_stops sl tp) ps in rw e (omega (arith, h, l))

pub swap_few : (ps ps' : List Position) (t : ℕ) (amount : ℤ) → length ps < 2 ^ 32 → ps' ≡ positions_after ps (Swap t amount) → length ps' < 2 ^ 32
swap_few ps ps' t amount h e = let l : length (positions_after ps (Swap t amount)) ≤ length ps = changed_length t (with_swap amount) ps in rw e (omega (arith, h, l))

-- what holds where a call answers Ok
pub of_ok : {X E : Type 0} (r : Result X E) (P : Type 0) → is_err r ≡ false → OnOk r P → P
of_ok (Ok x) P e h = h
of_ok (Err x) P e h = cc
