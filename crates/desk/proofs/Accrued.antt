-- The swap of positions: how much it is, and that its events may be added.
use Rattle.std.proofs.Common.{◌≡◌, ◌∙◌, ℕ, suc, zero, ◌+◌, ◌-◌, ◌*◌, ◌^◌, ◌≤◌, ◌++◌, append-nil, append_assoc, Bool, true, false, cond, eqb, ltb, List, [], ◌∷◌, length, map, filter, slice_get, Option, Some, None, ℤ, pos, ◌+ℤ◌, ◌*ℤ◌, unsigned_abs, refl, ap, sym, subst, arith, rules}
use Rattle.std.specs.List.{All, flat_map}
use Rattle.std.specs.Ordering.{int_eq}
use Rattle.std.specs.Option.{option_map}
use Rattle.std.specs.Prelude.{IfSome, ⊤}
use Rattle.std.proofs.lemmas.Int.{ints, unsigned_abs-mul}
use Rattle.std.proofs.lemmas.Nat.{mul-le}
use Rattle.std.proofs.lemmas.List.Elements.{All-tail}
use Rattle.fx8.specs.Rounding.{rounded}
use Rattle.market_types.specs.Ranges.{IsSpec}
use Rattle.market_types.specs.declared.quote.Quote.{Quote}
use Rattle.market_types.specs.declared.symbol_spec.SymbolSpec.{SymbolSpec}
use Rattle.account.specs.declared.account_spec.AccountSpec.{AccountSpec}
use Rattle.account.specs.declared.position.Position.{Position}
use Rattle.account.specs.declared.event.Event.{Event}
use Rattle.account.specs.declared.event.Event.TheVariants.{Swap}
use Rattle.account.specs.Deals.{deals}
use Rattle.account.specs.Keyed.{item, put, Rising, AllAbove, KeyIs}
use Rattle.account.specs.Positions.{position_ticket, with_swap, open_positions}
use Rattle.account.specs.Ranges.{KeepsTypes}
use Rattle.account.specs.StopOut.{PriceList}
use Rattle.account.proofs.Bounds.{rounded_le, sum_le}
use Rattle.account.proofs.Keys.{item-put-other}
use Rattle.account.proofs.Kept.{rising_open, open_more}
use Rattle.desk.specs.Books.{IsRuleOf}
use Rattle.desk.specs.Effect.{swaps, swaps_of, with_quote}
use Rattle.desk.specs.Nights.{night_after, nights_from, nights_between, swap_rate, swap_amount, swap_event, swap_events, accrual}
use Rattle.desk.specs.Quotes.{MayQuote}
use Rattle.desk.specs.Sound.{day_of, day_at, IsKept, IsSound, AreQuoted, MayFollow}
use Rattle.desk.specs.State.{Quoted}
use Rattle.desk.specs.Tickets.{last_order}
use Rattle.desk.proofs.Entered.{types_kept}
use Rattle.desk.proofs.Quoting.{day_before, day_quoted}

-- how many nights there are
night_most : (swap_day day : ℕ) → night_after swap_day day ≤ 3
unfolding night_after
night_most swap_day day = grind arith

pub nights_most : (swap_day day n : ℕ) → nights_from swap_day day n ≤ 3 * n
nights_most swap_day day zero = omega arith
nights_most swap_day day (suc n) = omega (arith, nights_most swap_day day n, night_most swap_day (day + n))

-- an amount of a night of so many deals' volume, and of so many nights
rate_small : (s : SymbolSpec) (p : Position) → IsSpec s → unsigned_abs (swap_rate s p) ≤ 10 ^ 8
rate_small s p h = elim p.buy as (λ b. unsigned_abs (cond b s.swap_long s.swap_short) ≤ 10 ^ 8) [
  | true ↦ omega (arith, ints, h.swap_long.from, h.swap_long.to)
  | false ↦ omega (arith, ints, h.swap_short.from, h.swap_short.to)
]

pub amount_small : (s : SymbolSpec) (nights : ℕ) (p : Position) → IsSpec s → unsigned_abs p.volume ≤ 50000 * 10 ^ 11 → unsigned_abs (swap_amount s nights p) ≤ 50000 * 10 ^ 11 * nights
unfolding swap_amount
amount_small s nights p h v =
    let m : unsigned_abs (swap_rate s p) * unsigned_abs p.volume ≤ 10 ^ 8 * (50000 * 10 ^ 11) = mul-le (unsigned_abs (swap_rate s p)) (unsigned_abs p.volume) (10 ^ 8) (50000 * 10 ^ 11) (rate_small s p h) v in
    let n : unsigned_abs (rounded (swap_rate s p *ℤ p.volume) (pos (10 ^ 8))) ≤ 50000 * 10 ^ 11 = rounded_le (swap_rate s p *ℤ p.volume) (10 ^ 8) (50000 * 10 ^ 11) (omega arith) (rw (unsigned_abs-mul (swap_rate s p) p.volume) (omega (arith, m))) in
    rw (unsigned_abs-mul (rounded (swap_rate s p *ℤ p.volume) (pos (10 ^ 8))) (pos nights)) (mul-le (unsigned_abs (rounded (swap_rate s p *ℤ p.volume) (pos (10 ^ 8)))) nights (50000 * 10 ^ 11) nights n (omega arith))

-- the list of amounts
pub skipped : (s : SymbolSpec) (place nights : ℕ) (p : Position) (list : List (ℕ × ℤ)) → eqb p.symbol place ≡ false → map accrual list ≡ map accrual list ++ swap_events s place nights (p ∷ [])
skipped s place nights p list h = rw h (sym (append-nil (map accrual list)))

one_event : (s : SymbolSpec) (place nights : ℕ) (p : Position) → eqb p.symbol place ≡ true → swap_events s place nights (p ∷ []) ≡ swap_event s nights p
one_event s place nights p h = rw h (append-nil (swap_event s nights p))

pub nothing_accrued : (s : SymbolSpec) (place nights : ℕ) (p : Position) (amount : ℤ) (list : List (ℕ × ℤ)) → eqb p.symbol place ≡ true → amount ≡ swap_amount s nights p → int_eq amount (pos 0) ≡ true → map accrual list ≡ map accrual list ++ swap_events s place nights (p ∷ [])
nothing_accrued s place nights p amount list h e z =
    let n : swap_event s nights p ≡ [] = rw (sym e) (rw z refl) in
    sym (append-nil (map accrual list)) ∙ ap (λ (es : List Event). map accrual list ++ es) (sym (one_event s place nights p h ∙ n))

mapped_more : (list : List (ℕ × ℤ)) (x : ℕ × ℤ) → map accrual (list ++ x ∷ []) ≡ map accrual list ++ accrual x ∷ []
mapped_more [] x = refl
mapped_more (y ∷ ys) x = ap (λ (es : List Event). accrual y ∷ es) (mapped_more ys x)

pub one_accrued : (s : SymbolSpec) (place nights : ℕ) (p : Position) (amount : ℤ) (list new : List (ℕ × ℤ)) → eqb p.symbol place ≡ true → amount ≡ swap_amount s nights p → int_eq amount (pos 0) ≡ false → new ≡ list ++ (p.ticket, amount) ∷ [] → map accrual new ≡ map accrual list ++ swap_events s place nights (p ∷ [])
one_accrued s place nights p amount list new h e z g =
    let n : swap_event s nights p ≡ Swap p.ticket amount ∷ [] = rw (sym e) (rw z refl) in
    ap (λ (xs : List (ℕ × ℤ)). map accrual xs) g ∙ mapped_more list (p.ticket, amount) ∙ ap (λ (es : List Event). map accrual list ++ es) (sym (one_event s place nights p h ∙ n))

more_events : (s : SymbolSpec) (place nights : ℕ) (p : Position) (ps : List Position) → swap_events s place nights (p ∷ ps) ≡ swap_events s place nights (p ∷ []) ++ swap_events s place nights ps
more_events s place nights p ps = elim (eqb p.symbol place) as (λ b. flat_map (swap_event s nights) (cond b (p ∷ filter (λ q. eqb q.symbol place) ps) (filter (λ q. eqb q.symbol place) ps)) ≡ flat_map (swap_event s nights) (cond b (p ∷ []) []) ++ swap_events s place nights ps) [
  | true ↦ rw (append-nil (swap_event s nights p)) refl
  | false ↦ refl
]

pub list_goes_on : (s : SymbolSpec) (place nights : ℕ) (p : Position) (rest others : List Position) (whole : List Event) (list new : List (ℕ × ℤ)) → rest ≡ p ∷ others → map accrual new ≡ map accrual list ++ swap_events s place nights (p ∷ []) → map accrual list ++ swap_events s place nights rest ≡ whole → map accrual new ++ swap_events s place nights others ≡ whole
list_goes_on s place nights p rest others whole list new r n h =
    ap (λ (es : List Event). es ++ swap_events s place nights others) n
    ∙ append_assoc (map accrual list) (swap_events s place nights (p ∷ [])) (swap_events s place nights others)
    ∙ ap (λ (es : List Event). map accrual list ++ es) (sym (more_events s place nights p others))
    ∙ ap (λ (ps : List Position). map accrual list ++ swap_events s place nights ps) (sym r)
    ∙ h

-- the swap of a quote
pub no_symbol : (q : Quoted) (quote : Quote) → slice_get q.spec.specs quote.symbol ≡ None → [] ≡ swaps q quote
no_symbol q quote e = rw e refl

no_amount : (s : SymbolSpec) (p : Position) → swap_amount s 0 p ≡ pos 0
unfolding swap_amount
no_amount s p = omega (arith, ints)

no_events : (s : SymbolSpec) (place : ℕ) (ps : List Position) → swap_events s place 0 ps ≡ []
no_events s place [] = refl
no_events s place (p ∷ ps) =
    let one : swap_event s 0 p ≡ [] = rw (no_amount s p) refl in
    more_events s place 0 p ps ∙ rw (no_events s place ps) (
    elim (eqb p.symbol place) as (λ b. flat_map (swap_event s 0) (cond b (p ∷ []) []) ++ [] ≡ []) [
      | true ↦ rw one refl
      | false ↦ refl
    ])

pub swaps_are : (q : Quoted) (quote : Quote) (s : SymbolSpec) (before : Option ℤ) → slice_get q.spec.specs quote.symbol ≡ Some s → slice_get q.times quote.symbol ≡ Some before → swap_events s quote.symbol (nights_between s.swap_day before quote.time_ms) (open_positions q.events) ≡ swaps q quote
swaps_are q quote s None e g = rw e (rw g refl)
swaps_are q quote s (Some x) e g = rw e (rw g refl)

pub no_nights : (q : Quoted) (quote : Quote) (s : SymbolSpec) (before : Option ℤ) (n : ℕ) → slice_get q.spec.specs quote.symbol ≡ Some s → slice_get q.times quote.symbol ≡ Some before → n ≡ nights_between s.swap_day before quote.time_ms → n ≡ 0 → [] ≡ swaps q quote
no_nights q quote s before n e g h z =
    sym (no_events s quote.symbol (open_positions q.events))
    ∙ ap (λ (k : ℕ). swap_events s quote.symbol k (open_positions q.events)) (sym z ∙ h)
    ∙ swaps_are q quote s before e g

-- each of the positions stands at its ticket
abbrev EachStands : List Position → List Position → Type 0
EachStands qs [] = ⊤
EachStands qs (p ∷ ps) = (item position_ticket p.ticket qs ≡ Some p) × EachStands qs ps

same : (n : ℕ) → eqb n n ≡ true
same n = grind arith

apart : (a b : ℕ) → ltb a b ≡ true → eqb a b ≡ false
apart a b h = grind arith

stands_behind : (x : Position) (qs ps : List Position) → AllAbove ltb position_ticket x.ticket ps → EachStands qs ps → EachStands (x ∷ qs) ps
stands_behind x qs [] a h = tt
stands_behind x qs (p ∷ ps) a h = (rw (apart x.ticket p.ticket a.0) h.0, stands_behind x qs ps a.1 h.1)

each_stands : (ps : List Position) → Rising position_ticket ps → EachStands ps ps
each_stands [] r = tt
each_stands (p ∷ ps) r = (rw (same p.ticket) refl, stands_behind p ps ps r.0 (each_stands ps r.1))

stands_after : (qs ps : List Position) (t : ℕ) (new : Option Position) → KeyIs position_ticket t new → AllAbove ltb position_ticket t ps → EachStands qs ps → EachStands (put position_ticket t new qs) ps
stands_after qs [] t new k a h = tt
stands_after qs (p ∷ ps) t new k a h = (item-put-other position_ticket t p.ticket new qs k (apart t p.ticket a.0) ∙ h.0, stands_after qs ps t new k a.1 h.1)

-- what each of the positions of a symbol may accrue
abbrev MayAccrue : SymbolSpec → ℕ → ℕ → ℕ → List Position → Type 0
MayAccrue s place nights most [] = ⊤
MayAccrue s place nights most (p ∷ ps) =
    (p.symbol ≡ place → unsigned_abs (p.swap +ℤ swap_amount s nights p) ≤ most) × MayAccrue s place nights most ps

swapped : (es : List Event) (p : Position) (ps : List Position) (amount : ℤ) → item position_ticket p.ticket (open_positions es) ≡ Some p → AllAbove ltb position_ticket p.ticket ps → EachStands (open_positions es) ps → EachStands (open_positions (es ++ Swap p.ticket amount ∷ [])) ps
swapped es p ps amount e a h =
    let now : open_positions (es ++ Swap p.ticket amount ∷ []) ≡ put position_ticket p.ticket (Some (with_swap amount p)) (open_positions es) = open_more es (Swap p.ticket amount) ∙ ap (λ (o : Option Position). put position_ticket p.ticket (option_map (with_swap amount) o) (open_positions es)) e in
    rw now (stands_after (open_positions es) ps p.ticket (Some (with_swap amount p)) refl a h)

follow : (spec : AccountSpec) (prices : PriceList) (times : List (Option ℤ)) (s : SymbolSpec) (place nights : ℕ) (es : List Event) (ps : List Position) → Rising position_ticket ps → EachStands (open_positions es) ps → MayAccrue s place nights (2 ^ 66 * day_at times place) ps → MayFollow spec prices times es (swap_events s place nights ps)
follow spec prices times s place nights es [] r h m = tt
follow spec prices times s place nights es (p ∷ ps) r h m =
    (elim (eqb p.symbol place) as (λ b. eqb p.symbol place ≡ b → MayFollow spec prices times es (flat_map (swap_event s nights) (cond b (p ∷ filter (λ q. eqb q.symbol place) ps) (filter (λ q. eqb q.symbol place) ps)))) [
      | true ↦ λ e.
          let at : p.symbol ≡ place = grind arith in
          elim (int_eq (swap_amount s nights p) (pos 0)) as (λ z. MayFollow spec prices times es (cond z [] (Swap p.ticket (swap_amount s nights p) ∷ []) ++ swap_events s place nights ps)) [
            | true ↦ follow spec prices times s place nights es ps r.1 h.1 m.1
            | false ↦ (
              rw h.0 (subst (λ (k : ℕ). unsigned_abs (p.swap +ℤ swap_amount s nights p) ≤ 2 ^ 66 * day_at times k) (sym at) (m.0 at)),
              follow spec prices times s place nights (es ++ Swap p.ticket (swap_amount s nights p) ∷ []) ps r.1 (swapped es p ps (swap_amount s nights p) h.0 r.0 h.1) m.1,
            )
          ]
      | false ↦ λ e. follow spec prices times s place nights es ps r.1 h.1 m.1
    ]) refl

-- the days since the quote before bound what the nights accrue
by_days : (swap_day : ℕ) (x t : ℤ) → nights_between swap_day (Some x) t ≤ 3 * (day_of t - day_of x)
by_days swap_day x t = nights_most swap_day (day_of x) (day_of t - day_of x)

one_may : (spec : AccountSpec) (prices : PriceList) (times : List (Option ℤ)) (last n : ℕ) (s : SymbolSpec) (place nights day : ℕ) (p : Position) → IsSpec s → n ≤ 50000 → nights ≤ 3 * (day - day_at times place) → day_at times place ≤ day → IsKept spec prices times last n p → p.symbol ≡ place → unsigned_abs (p.swap +ℤ swap_amount s nights p) ≤ 2 ^ 66 * day
one_may spec prices times last n s place nights day p h l d g k e =
    let v : unsigned_abs p.volume ≤ 50000 * 10 ^ 11 = omega (arith, ints, k.volume, k.held.some, l) in
    let a : unsigned_abs (swap_amount s nights p) ≤ 50000 * 10 ^ 11 * nights = amount_small s nights p h v in
    let b : unsigned_abs p.swap ≤ 2 ^ 66 * day_at times place = subst (λ (m : ℕ). unsigned_abs p.swap ≤ 2 ^ 66 * day_at times m) e k.swap in
    omega (arith, sum_le p.swap (swap_amount s nights p), a, b, d, g)

all_may : (spec : AccountSpec) (prices : PriceList) (times : List (Option ℤ)) (last n : ℕ) (s : SymbolSpec) (place nights day : ℕ) (ps : List Position) → IsSpec s → n ≤ 50000 → nights ≤ 3 * (day - day_at times place) → day_at times place ≤ day → All (IsKept spec prices times last n) ps → MayAccrue s place nights (2 ^ 66 * day) ps
all_may spec prices times last n s place nights day [] h l d g k = tt
all_may spec prices times last n s place nights day (p ∷ ps) h l d g k = (
  one_may spec prices times last n s place nights day p h l d g (k zero p (omega arith)),
  all_may spec prices times last n s place nights day ps h l d g (All-tail (IsKept spec prices times last n) p ps k),
)

spec_at : (specs : List SymbolSpec) (k : ℕ) (s : SymbolSpec) → All IsSpec specs → slice_get specs k ≡ Some s → IsSpec s
spec_at [] k s a h = absurd (cc)
spec_at (x ∷ xs) zero s a h = let e : x ≡ s = grind rules in subst (λ (y : SymbolSpec). IsSpec y) e (a zero x (omega arith))
spec_at (x ∷ xs) (suc k) s a h = spec_at xs k s (All-tail IsSpec x xs a) h

day_is : (times : List (Option ℤ)) (s : ℕ) (x : ℤ) → slice_get times s ≡ Some (Some x) → day_at times s ≡ day_of x
unfolding day_at
day_is times s x h = rw h refl

follow_by : (q : Quoted) (quote : Quote) (s : Option SymbolSpec) (before : Option (Option ℤ)) → MayQuote q quote → AreQuoted q.spec q.prices q.times → IsSound q.spec q.prices q.times q.events → slice_get q.spec.specs quote.symbol ≡ s → slice_get q.times quote.symbol ≡ before → MayFollow q.spec (with_quote quote q).prices (with_quote quote q).times q.events (swaps_of s before quote (open_positions q.events))
follow_by q quote None before m a h e g = tt
follow_by q quote (Some s) None m a h e g = tt
follow_by q quote (Some s) (Some None) m a h e g = rw (no_events s quote.symbol (open_positions q.events)) tt
follow_by q quote (Some s) (Some (Some x)) m a h e g =
    let n : ℕ = nights_between s.swap_day (Some x) quote.time_ms in
    let d : day_at q.times quote.symbol ≤ day_of quote.time_ms = day_before q.times quote.symbol quote.time_ms a.moments m.later in
    let few : n ≤ 3 * (day_of quote.time_ms - day_at q.times quote.symbol) = subst (λ (k : ℕ). n ≤ 3 * (day_of quote.time_ms - k)) (sym (day_is q.times quote.symbol x g)) (by_days s.swap_day x quote.time_ms) in
    let now : day_at (with_quote quote q).times quote.symbol ≡ day_of quote.time_ms = day_quoted q.times quote.symbol quote.time_ms (omega (arith, m.symbol, a.each_time)) in
    follow q.spec (with_quote quote q).prices (with_quote quote q).times s quote.symbol n q.events (open_positions q.events) (rising_open q.events) (each_stands (open_positions q.events) (rising_open q.events))
    (subst (λ (k : ℕ). MayAccrue s quote.symbol n (2 ^ 66 * k) (open_positions q.events)) (sym now) (all_may q.spec q.prices q.times (last_order q.events) (length (deals q.events)) s quote.symbol n (day_of quote.time_ms) (open_positions q.events) (spec_at q.spec.specs quote.symbol s h.account.specs e) h.few few d h.positions))

-- the swap of a quote may be accrued at its prices and its time
pub swaps_follow : (q : Quoted) (quote : Quote) → MayQuote q quote → AreQuoted q.spec q.prices q.times → IsSound q.spec q.prices q.times q.events → MayFollow q.spec (with_quote quote q).prices (with_quote quote q).times q.events (swaps q quote)
swaps_follow q quote m a h = follow_by q quote (slice_get q.spec.specs quote.symbol) (slice_get q.times quote.symbol) m a h refl refl

-- the numbers of a position that accrues swap keep their types
pub may_accrue : (hedging : Bool) (specs : List SymbolSpec) (ps : List Position) (q : Quoted) (t : ℕ) (amount : ℤ) → IsRuleOf hedging specs ps q → AreQuoted q.spec q.prices q.times → IfSome (item position_ticket t (open_positions q.events)) (λ p. unsigned_abs (p.swap +ℤ amount) ≤ 2 ^ 66 * day_at q.times p.symbol) → KeepsTypes ps (Swap t amount)
may_accrue hedging specs ps q t amount r a h = rw r.positions (types_kept q.spec q.prices q.times q.events (Swap t amount) a h)
