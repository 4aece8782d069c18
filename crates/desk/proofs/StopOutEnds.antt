-- Stop-out goes on until none is due: each closing takes a position away.
use Rattle.std.proofs.Common.{◌≡◌, ◌∙◌, ℕ, suc, zero, ◌+◌, ◌<◌, ◌≤◌, ◌++◌, Bool, true, false, not, cond, eqb, List, [], ◌∷◌, length, fold, slice_get, Option, Some, None, Ok, ℤ, int_lt, refl, ap, sym, subst, arith, rules, is_some}
use Rattle.std.specs.List.{remove}
use Rattle.std.specs.Option.{option_map}
use Rattle.std.specs.Prelude.{IfSome}
use Rattle.std.proofs.lemmas.Int.{ints}
use Rattle.std.proofs.lemmas.List.Edits.{length-remove}
use Rattle.std.proofs.lemmas.List.Sums.{fold-append}
use Rattle.market_types.specs.declared.symbol_spec.SymbolSpec.{SymbolSpec}
use Rattle.account.specs.declared.account_spec.AccountSpec.{AccountSpec}
use Rattle.account.specs.declared.deal.DealReason.{DealReason}
use Rattle.account.specs.declared.position.Position.{Position}
use Rattle.account.specs.declared.event.Event.{Event}
use Rattle.account.specs.Deals.{deals}
use Rattle.account.specs.Keyed.{item, put, lower, found, Rising}
use Rattle.account.specs.Orders.{orders_in_force}
use Rattle.account.specs.Positions.{position_ticket, same_side, is_buy, positions_after, open_positions}
use Rattle.account.specs.StopOut.{PriceList, floating, equity, is_due, least, lesser, margin_of, worst}
use Rattle.account.proofs.Found.{Stands, all_item, gone, stands}
use Rattle.account.proofs.Kept.{rising_open}
use Rattle.positions.specs.declared.fill.Fill.{Fill}
use Rattle.positions.specs.Fills.{kind_of, events_on, met}
use Rattle.positions.proofs.Filling.{not_balance}
use Rattle.desk.specs.Books.{Kept}
use Rattle.desk.specs.Effect.{Run, act, closing_of, fill_of_closing, last_prices, position_closed}
use Rattle.desk.specs.Runs.{Runs}
use Rattle.desk.specs.Sound.{IsKept, IsSound, AreQuoted}
use Rattle.desk.specs.State.{Quoted, have_room}
use Rattle.desk.specs.Tickets.{last_order}
use Rattle.desk.proofs.Closed.{closing_met, closing_ready, events_are, own_item}
use Rattle.desk.proofs.FiringRuns.{run_from}

-- the position of least floating profit is one of those that are open
first_there : (x p : Position) (xs : List Position) → x ≡ p → is_some (cond (eqb x.ticket p.ticket) (Some x) (item position_ticket p.ticket xs)) ≡ true
first_there x p xs e =
    let t : x.ticket ≡ p.ticket = ap (λ (y : Position). y.ticket) e in
    let s : eqb x.ticket p.ticket ≡ true = grind (arith, t) in
    rw s refl

later_there : (x p : Position) (xs : List Position) → is_some (item position_ticket p.ticket xs) ≡ true → is_some (cond (eqb x.ticket p.ticket) (Some x) (item position_ticket p.ticket xs)) ≡ true
later_there x p xs h = elim (eqb x.ticket p.ticket) as (λ b. is_some (cond b (Some x) (item position_ticket p.ticket xs)) ≡ true) [ true ↦ refl | false ↦ h ]

some_same : (x p : Position) → Some x ≡ Some p → x ≡ p
some_same x p h = grind rules

least_there : (worth : Position → ℤ) (ps : List Position) (p : Position) → least worth ps ≡ Some p → is_some (item position_ticket p.ticket ps) ≡ true
least_there worth [] p h = cc
least_there worth (x ∷ xs) p h =
    (elim (least worth xs) as (λ o. least worth xs ≡ o → Some (lesser worth x o) ≡ Some p → is_some (cond (eqb x.ticket p.ticket) (Some x) (item position_ticket p.ticket xs)) ≡ true) [
      | None ↦ λ e g. first_there x p xs (some_same x p g)
      | Some q ↦ λ e g. (elim (int_lt (worth q) (worth x)) as (λ b. Some (cond b q x) ≡ Some p → is_some (cond (eqb x.ticket p.ticket) (Some x) (item position_ticket p.ticket xs)) ≡ true) [
        | true ↦ λ k. later_there x p xs (least_there worth xs p (e ∙ k))
        | false ↦ λ k. first_there x p xs (some_same x p k)
      ]) g
    ]) refl h

-- so is the one that stop-out closes
worst_there : (spec : AccountSpec) (prices : PriceList) (es : List Event) (t : ℕ) → worst spec prices es ≡ Some t → is_some (item position_ticket t (open_positions es)) ≡ true
worst_there spec prices es t h =
    (elim (is_due spec.stop_out (equity spec.specs prices es) (margin_of spec es)) as (λ b. cond b (option_map position_ticket (least (floating spec.specs prices) (open_positions es))) None ≡ Some t → is_some (item position_ticket t (open_positions es)) ≡ true) [
      | true ↦ λ g. (elim (least (floating spec.specs prices) (open_positions es)) as (λ o. least (floating spec.specs prices) (open_positions es) ≡ o → option_map position_ticket o ≡ Some t → is_some (item position_ticket t (open_positions es)) ≡ true) [
        | None ↦ λ e k. cc
        | Some p ↦ λ e k. let s : p.ticket ≡ t = grind rules in subst (λ (n : ℕ). is_some (item position_ticket n (open_positions es)) ≡ true) s (least_there (floating spec.specs prices) (open_positions es) p e)
      ]) refl g
      | false ↦ λ g. cc
    ]) h

-- no stop-out is due where no position is open
pub none_worst : (spec : AccountSpec) (prices : PriceList) (es : List Event) → length (open_positions es) ≤ 0 → worst spec prices es ≡ None
none_worst spec prices es h =
    let n : least (floating spec.specs prices) (open_positions es) ≡ None = no_least (floating spec.specs prices) (open_positions es) h in
    elim (is_due spec.stop_out (equity spec.specs prices es) (margin_of spec es)) as (λ b. cond b (option_map position_ticket (least (floating spec.specs prices) (open_positions es))) None ≡ None) [
      | true ↦ ap (option_map position_ticket) n
      | false ↦ refl
    ]
  where
    no_least : (worth : Position → ℤ) (ps : List Position) → length ps ≤ 0 → least worth ps ≡ None
    no_least worth [] h = refl
    no_least worth (p ∷ ps) h = absurd (omega (arith, h))

-- a position less
in_range : (xs : List Position) (i : ℕ) (x : Position) → slice_get xs i ≡ Some x → i < length xs
in_range [] i x h = cc
in_range (y ∷ xs) zero x h = omega arith
in_range (y ∷ xs) (suc n) x h = let l : n < length xs = in_range xs n x h in omega (arith, l)

one_less : (t : ℕ) (ps : List Position) (p : Position) → Rising position_ticket ps → item position_ticket t ps ≡ Some p → length (put position_ticket t None ps) + 1 ≤ length ps
one_less t ps p r e =
    let f : Some (lower position_ticket t ps) ≡ found position_ticket t ps = ap (option_map (λ (x : Position). lower position_ticket t ps)) (sym e) in
    let s : Stands position_ticket t ps (lower position_ticket t ps) = stands position_ticket t ps (lower position_ticket t ps) r f in
    let l : length (remove ps (lower position_ticket t ps)) + 1 ≡ length ps = length-remove ps (lower position_ticket t ps) (in_range ps (lower position_ticket t ps) s.one s.there) in
    rw (gone position_ticket t ps (lower position_ticket t ps) r f) (omega (arith, l))

-- the fill that closes a position leaves none of it
other_side : (b : Bool) → same_side b (not b) ≡ false
other_side true = refl
other_side false = refl

buy_of : (b : Bool) → is_buy (kind_of b) ≡ b
buy_of true = refl
buy_of false = refl

not_less : (v : ℤ) → int_lt v v ≡ false
not_less v = grind (arith, ints)

dealt_side : (p : Position) → same_side p.buy (is_buy (kind_of (not p.buy))) ≡ false
dealt_side p = ap (same_side p.buy) (buy_of (not p.buy)) ∙ other_side p.buy

closing_left : (specs : List SymbolSpec) (deal : ℕ) (time_ms : ℤ) (pair : ℤ × ℤ) (why : DealReason) (p : Position) (ps : List Position) → item position_ticket p.ticket ps ≡ Some p → fold positions_after ps (events_on specs (fill_of_closing deal time_ms pair why p) (Some p)) ≡ put position_ticket p.ticket None ps
closing_left specs deal time_ms pair why p ps e =
    rw (other_side p.buy) (rw (dealt_side p) (rw (not_less p.volume) (rw (not_balance (not p.buy)) (rw e (rw (dealt_side p) (rw (not_less p.volume) refl))))))

-- closing takes its position away
kept_of : (q : Quoted) (t : ℕ) (p : Position) → IsSound q.spec q.prices q.times q.events → item position_ticket t (open_positions q.events) ≡ Some p → IsKept q.spec q.prices q.times (last_order q.events) (length (deals q.events)) p
kept_of q t p s e = subst (λ (x : Option Position). IfSome x (IsKept q.spec q.prices q.times (last_order q.events) (length (deals q.events)))) e (all_item (IsKept q.spec q.prices q.times (last_order q.events) (length (deals q.events))) position_ticket t (open_positions q.events) s.positions)

closing_adds : (q : Quoted) (time_ms : ℤ) (why : DealReason) (t : ℕ) (p : Position) → AreQuoted q.spec q.prices q.times → IsSound q.spec q.prices q.times q.events → item position_ticket t (open_positions q.events) ≡ Some p → closing_of q.spec q.prices time_ms why t q.events ≡ events_on q.spec.specs (fill_of_closing (length (deals q.events) + 1) time_ms (last_prices q.prices p.symbol) why p) (Some p)
closing_adds q time_ms why t p a s e =
    let own : item position_ticket p.ticket (open_positions q.events) ≡ Some p = own_item (open_positions q.events) t p e in
    let k : IsKept q.spec q.prices q.times (last_order q.events) (length (deals q.events)) p = kept_of q t p s e in
    let f : Fill = fill_of_closing (length (deals q.events) + 1) time_ms (last_prices q.prices p.symbol) why p in
    let m : met q.spec.hedging (open_positions q.events) f ≡ Some p = closing_met q.spec.hedging (orders_in_force q.events) (open_positions q.events) (length (deals q.events) + 1) time_ms (last_prices q.prices p.symbol) why p (rising_open q.events) s.tidy k.from own in
    ap (λ (o : Option Position). position_closed q.spec q.prices time_ms why q.events o) e
    ∙ events_are q f (closing_ready q (length (deals q.events) + 1) time_ms why p a s own)
    ∙ ap (λ (o : Option Position). events_on q.spec.specs f o) m

taken_away : (q : Quoted) (time_ms : ℤ) (why : DealReason) (t : ℕ) (o : Option Position) → AreQuoted q.spec q.prices q.times → IsSound q.spec q.prices q.times q.events → item position_ticket t (open_positions q.events) ≡ o → is_some o ≡ true → length (fold positions_after (open_positions q.events) (closing_of q.spec q.prices time_ms why t q.events)) + 1 ≤ length (open_positions q.events)
taken_away q time_ms why t None a s e h = absurd (cc)
taken_away q time_ms why t (Some p) a s e h =
    let own : item position_ticket p.ticket (open_positions q.events) ≡ Some p = own_item (open_positions q.events) t p e in
    let left : fold positions_after (open_positions q.events) (closing_of q.spec q.prices time_ms why t q.events) ≡ put position_ticket p.ticket None (open_positions q.events) = ap (λ (es : List Event). fold positions_after (open_positions q.events) es) (closing_adds q time_ms why t p a s e) ∙ closing_left q.spec.specs (length (deals q.events) + 1) time_ms (last_prices q.prices p.symbol) why p (open_positions q.events) own in
    subst (λ (ps : List Position). length ps + 1 ≤ length (open_positions q.events)) (sym left) (one_less p.ticket (open_positions q.events) p (rising_open q.events) own)

-- an act that finds room adds its events
abbrev run_by : Bool → List Event → List Event → Run
run_by c es more = cond c (record { events = es ++ more; full = false }) (record { events = es; full = true })

acted : (adds : List Event → List Event) (es : List Event) → (act adds (record { events = es; full = false })).full ≡ false → (act adds (record { events = es; full = false })).events ≡ es ++ adds es
acted adds es h =
    elim (have_room es (adds es)) as (λ c. (run_by c es (adds es)).full ≡ false → (run_by c es (adds es)).events ≡ es ++ adds es) [
      | true ↦ λ g. refl
      | false ↦ λ g. cc
    ] h

-- a closing of stop-out leaves a position less
pub closes_one : (b b' : Kept) (time_ms : ℤ) (why : DealReason) (t : ℕ) (u : Unit {0}) → AreQuoted b.quoted.spec b.quoted.prices b.quoted.times → IsSound b.quoted.spec b.quoted.prices b.quoted.times b.quoted.events → worst b.quoted.spec b.quoted.prices b.quoted.events ≡ Some t → Runs b (act (closing_of b.quoted.spec b.quoted.prices time_ms why t) (run_from b)) (Ok u) b' → length (open_positions b'.quoted.events) + 1 ≤ length (open_positions b.quoted.events)
closes_one b b' time_ms why t u a s w h =
    let adds : List Event = closing_of b.quoted.spec b.quoted.prices time_ms why t b.quoted.events in
    let e : b'.quoted.events ≡ b.quoted.events ++ adds = ap (λ (k : Kept). k.quoted.events) h.1 ∙ acted (closing_of b.quoted.spec b.quoted.prices time_ms why t) b.quoted.events h.0 in
    let ps : open_positions b'.quoted.events ≡ fold positions_after (open_positions b.quoted.events) adds = ap (λ (es : List Event). open_positions es) e ∙ fold-append positions_after [] b.quoted.events adds in
    subst (λ (xs : List Position). length xs + 1 ≤ length (open_positions b.quoted.events)) (sym ps) (taken_away b.quoted time_ms why t (item position_ticket t (open_positions b.quoted.events)) a s refl (worst_there b.quoted.spec b.quoted.prices b.quoted.events t w))
