-- How great margins and their sums are, and how many positions are open.
use Rattle.std.proofs.Common.{◌≡◌, ◌∙◌, ℕ, suc, zero, ◌+◌, ◌*◌, ◌^◌, ◌<◌, ◌≤◌, ◌++◌, Bool, true, false, cond, ltb, List, [], ◌∷◌, length, length-append, filter, fold, Option, Some, None, ℤ, pos, ◌+ℤ◌, ◌*ℤ◌, unsigned_abs, FitsSigned, refl, ap, sym, subst, arith}
use Rattle.std.specs.Int.{w64, w128}
use Rattle.std.specs.List.{All, cons_option}
use Rattle.std.specs.Option.{option_map, option_to_list}
use Rattle.std.proofs.lemmas.List.{length-set}
use Rattle.std.proofs.lemmas.Int.{ints, fits_signed_from_abs, unsigned_abs-mul}
use Rattle.std.proofs.lemmas.Nat.{mul-le}
use Rattle.std.proofs.lemmas.List.Elements.{All-filter, All-tail}
use Rattle.fx8.specs.Rounding.{nearest, rounded, signed}
use Rattle.market_types.specs.Ranges.{IsSpec}
use Rattle.market_types.specs.declared.symbol_spec.SymbolSpec.{SymbolSpec}
use Rattle.account.specs.declared.position.Position.{Position}
use Rattle.account.specs.declared.event.Event.{Event}
use Rattle.account.specs.declared.event.Event.TheVariants.{Placed, Modified, Removed, Triggered, Added, Stops, Swap}
use Rattle.account.specs.Keyed.{item, put, below, above, found, Rising}
use Rattle.account.specs.Deals.{total, deal_of, deals}
use Rattle.account.specs.Money.{margin}
use Rattle.account.specs.Positions.{positions_after, open_positions, position_ticket, after_deal, is_balance, with_stops, with_swap}
use Rattle.account.specs.Ranges.{IsHeld}
use Rattle.account.specs.StopOut.{contract_of, position_margin, is_on, side_margin}
use Rattle.account.proofs.Scaling.{nearest_le}
use Rattle.account.proofs.Found.{stands, Stands, changed_at, changed_none}
use Rattle.account.proofs.Steps.{rising_after}

size_of : (b : Bool) (n : ℕ) → unsigned_abs (signed b n) ≡ n
size_of true n = omega (arith, ints)
size_of false n = refl

-- what is rounded is no greater than a bound of the quotient
pub rounded_le : (p : ℤ) (q m : ℕ) → 0 < q → unsigned_abs p ≤ m * q → unsigned_abs (rounded p (pos q)) ≤ m
unfolding rounded
rounded_le p q m h b = rw (size_of _ (nearest (unsigned_abs p) q)) (nearest_le (unsigned_abs p) q m h b)

pub size_64 : (z : ℤ) → FitsSigned w64 z → unsigned_abs z ≤ 2 ^ 63
size_64 z f = omega (arith, ints, f)

pub contract_most : (specs : List SymbolSpec) (symbol : ℕ) → All IsSpec specs → contract_of specs symbol ≤ 10 ^ 6
contract_most [] symbol h = omega arith
contract_most (s ∷ specs) zero h = (h zero s (omega arith)).contract_to
contract_most (s ∷ specs) (suc n) h = contract_most specs n (All-tail IsSpec s specs h)

-- 2^63 * 2^63 * 10^6 is no more than 2^100 * 10^14 * leverage
worth_le : (v p c l : ℕ) → v ≤ 2 ^ 63 → p ≤ 2 ^ 63 → c ≤ 10 ^ 6 → 1 ≤ l → v * p * c ≤ 2 ^ 100 * (10 ^ 14 * l)
worth_le v p c l hv hp hc hl =
    let a : v * p ≤ 2 ^ 126 = mul-le v p (2 ^ 63) (2 ^ 63) hv hp in
    let b : v * p * c ≤ 2 ^ 126 * 10 ^ 6 = mul-le (v * p) c (2 ^ 126) (10 ^ 6) a hc in
    omega (arith, b, hl)

-- a position binds at most 2^100
pub margin_most : (specs : List SymbolSpec) (leverage : ℕ) (p : Position) → All IsSpec specs → 1 ≤ leverage → IsHeld p → unsigned_abs (position_margin specs leverage p) ≤ 2 ^ 100
unfolding position_margin margin
margin_most specs leverage p h l k =
    let c : ℕ = contract_of specs p.symbol in
    let e : unsigned_abs (p.volume *ℤ p.price *ℤ pos c) ≡ unsigned_abs p.volume * unsigned_abs p.price * c = unsigned_abs-mul (p.volume *ℤ p.price) (pos c) ∙ ap (λ (n : ℕ). n * c) (unsigned_abs-mul p.volume p.price) in
    rounded_le (p.volume *ℤ p.price *ℤ pos c) (10 ^ 14 * leverage) (2 ^ 100) (omega (arith, l))
    (rw e (worth_le (unsigned_abs p.volume) (unsigned_abs p.price) c leverage (size_64 p.volume k.volume) (size_64 p.price k.price) (contract_most specs p.symbol h) l))

pub sum_le : (a b : ℤ) → unsigned_abs (a +ℤ b) ≤ unsigned_abs a + unsigned_abs b
sum_le a b = grind (arith, ints)

pub total_le : {X : Type 0} (f : X → ℤ) (m : ℕ) (xs : List X) → All (λ x. unsigned_abs (f x) ≤ m) xs → unsigned_abs (total f xs) ≤ length xs * m
total_le f m [] h = omega arith
total_le {X} f m (x ∷ xs) h =
    let one : unsigned_abs (f x) ≤ m = h zero x (omega arith) in
    let rest : unsigned_abs (total f xs) ≤ length xs * m = total_le f m xs (All-tail (λ x. unsigned_abs (f x) ≤ m) x xs h) in
    let s : unsigned_abs (f x +ℤ total f xs) ≤ unsigned_abs (f x) + unsigned_abs (total f xs) = sum_le (f x) (total f xs) in
    let e : suc (length xs) * m ≡ m + length xs * m = grind arith in
    omega (arith, one, rest, s, e)

pub filter_few : {X : Type 0} (p : X → Bool) (xs : List X) → length (filter p xs) ≤ length xs
filter_few p [] = omega arith
filter_few {X} p (x ∷ xs) = let h : length (filter p xs) ≤ length xs = filter_few p xs in elim (p x) as (λ b. length (cond b (x ∷ filter p xs) (filter p xs)) ≤ suc (length xs)) [ true ↦ omega (arith, h) | false ↦ omega (arith, h) ]

pub few_fit : (specs : List SymbolSpec) (leverage : ℕ) (ps : List Position) → All IsSpec specs → 1 ≤ leverage → All IsHeld ps → length ps ≤ 65536 → FitsSigned w128 (total (position_margin specs leverage) ps)
few_fit specs leverage ps h l k n =
    let t : unsigned_abs (total (position_margin specs leverage) ps) ≤ length ps * 2 ^ 100 = total_le (position_margin specs leverage) (2 ^ 100) ps (λ i d p. margin_most specs leverage _ h l (k i d p)) in
    fits_signed_from_abs w128 _ (omega (arith, t, n))

-- the sums of a side fit
pub side_fits : (specs : List SymbolSpec) (leverage : ℕ) (ps : List Position) (buy : Bool) (symbol : ℕ) → All IsSpec specs → 1 ≤ leverage → All IsHeld ps → length ps ≤ 65536 → FitsSigned w128 (side_margin specs leverage ps buy symbol)
side_fits specs leverage ps buy symbol h l k n =
    let few : length (filter (is_on symbol buy) ps) ≤ length ps = filter_few (is_on symbol buy) ps in
    few_fit specs leverage (filter (is_on symbol buy) ps) h l (All-filter (is_on symbol buy) IsHeld ps k) (omega (arith, few, n))

-- lower and higher tickets are apart
apart : {X : Type 0} (key : X → ℕ) (t : ℕ) (xs : List X) → length (below ltb key t xs) + length (above ltb key t xs) ≤ length xs
apart key t [] = omega arith
apart {X} key t (x ∷ xs) =
    let h : length (below ltb key t xs) + length (above ltb key t xs) ≤ length xs = apart key t xs in
    (elim (ltb (key x) t) as (λ a. ltb (key x) t ≡ a → length (cond a (x ∷ below ltb key t xs) (below ltb key t xs)) + length (cond (ltb t (key x)) (x ∷ above ltb key t xs) (above ltb key t xs)) ≤ suc (length xs)) [
      | true ↦ λ e. let n : ltb t (key x) ≡ false = grind (arith, e) in rw n (omega (arith, h))
      | false ↦ λ e. elim (ltb t (key x)) as (λ b. length (below ltb key t xs) + length (cond b (x ∷ above ltb key t xs) (above ltb key t xs)) ≤ suc (length xs)) [ true ↦ omega (arith, h) | false ↦ omega (arith, h) ]
    ]) refl

option_few : {X : Type 0} (o : Option X) → length (option_to_list o) ≤ 1
option_few None = omega arith
option_few (Some x) = omega arith

put_few : {X : Type 0} (key : X → ℕ) (t : ℕ) (new : Option X) (xs : List X) → length (put key t new xs) ≤ length xs + 1
put_few key t new xs =
    let h : length (below ltb key t xs) + length (above ltb key t xs) ≤ length xs = apart key t xs in
    let o : length (option_to_list new) ≤ 1 = option_few new in
    rw (length-append (below ltb key t xs ++ option_to_list new) (above ltb key t xs)) (rw (length-append (below ltb key t xs) (option_to_list new)) (omega (arith, h, o)))

changed_few : {X : Type 0} (key : X → ℕ) (t : ℕ) (f : X → X) (xs : List X) → Rising key xs → length (put key t (option_map f (item key t xs)) xs) ≤ length xs
changed_few {X} key t f xs r =
    (elim (found key t xs) as (λ o. found key t xs ≡ o → length (put key t (option_map f (item key t xs)) xs) ≤ length xs) [
      | None ↦ λ e. subst (λ (ys : List X). length ys ≤ length xs) (changed_none key t f xs r (sym e)) (omega arith)
      | Some i ↦ λ e.
          let s : Stands key t xs i = stands key t xs i r (sym e) in
          rw (changed_at key t f xs i s.one r (sym e) s.there) (rw (length-set xs i (f s.one)) (omega arith))
    ]) refl

step_few : (ps : List Position) (e : Event) → Rising position_ticket ps → length (positions_after ps e) ≤ length ps + length (cons_option (deal_of e) [])
step_few ps (Added d) r =
    elim (is_balance d.kind) as (λ b. length (cond b ps (put position_ticket d.position (after_deal d (item position_ticket d.position ps)) ps)) ≤ length ps + 1) [
      | true ↦ omega arith
      | false ↦ put_few position_ticket d.position _ ps
    ]
step_few ps (Stops t sl tp) r = let h : length (positions_after ps (Stops t sl tp)) ≤ length ps = changed_few position_ticket t (with_stops sl tp) ps r in omega (arith, h)
step_few ps (Swap t amount) r = let h : length (positions_after ps (Swap t amount)) ≤ length ps = changed_few position_ticket t (with_swap amount) ps r in omega (arith, h)
step_few ps (Placed o) r = omega arith
step_few ps (Modified o) r = omega arith
step_few ps (Removed t cause) r = omega arith
step_few ps (Triggered t) r = omega arith

deals_first : (e : Event) (es : List Event) → length (deals (e ∷ es)) ≡ length (cons_option (deal_of e) []) + length (deals es)
deals_first (Added d) es = omega arith
deals_first (Stops t sl tp) es = omega arith
deals_first (Swap t amount) es = omega arith
deals_first (Placed o) es = omega arith
deals_first (Modified o) es = omega arith
deals_first (Removed t cause) es = omega arith
deals_first (Triggered t) es = omega arith

few_over : (ps : List Position) (es : List Event) → Rising position_ticket ps → length (fold positions_after ps es) ≤ length ps + length (deals es)
few_over ps [] r = omega arith
few_over ps (e ∷ es) r =
    let h : length (fold positions_after (positions_after ps e) es) ≤ length (positions_after ps e) + length (deals es) = few_over (positions_after ps e) es (rising_after ps e r) in
    let s : length (positions_after ps e) ≤ length ps + length (cons_option (deal_of e) []) = step_few ps e r in
    rw (deals_first e es) (omega (arith, h, s))

-- there are no more open positions than deals
pub few_open : (es : List Event) → length (open_positions es) ≤ length (deals es)
few_open es = let h : length (fold positions_after [] es) ≤ length {A = Position} [] + length (deals es) = few_over [] es tt in omega (arith, h)
