-- Stop-out: what the ledger asks for, and positions closed one after another.
use Rattle.std.proofs.Common.{◌≡◌, ◌∙◌, ℕ, suc, zero, ◌+◌, ◌^◌, ◌≤◌, true, false, List, [], length, slice_index_or, Option, Some, None, Ok, Err, ℤ, pos, ◌+ℤ◌, unsigned_abs, FitsSigned, refl, ap, sym, subst, arith}
use Rattle.std.specs.Int.{w128}
use Rattle.std.specs.List.{All}
use Rattle.std.specs.Option.{option_map_or}
use Rattle.std.proofs.lemmas.Int.{ints}
use Rattle.std.proofs.lemmas.List.Elements.{All-nil}
use Rattle.account.specs.declared.account_spec.AccountSpec.{AccountSpec}
use Rattle.account.specs.declared.deal.DealReason.TheVariants as reason
use Rattle.account.specs.declared.position.Position.{Position}
use Rattle.account.specs.Deals.{deals, balance}
use Rattle.account.specs.Doubles.{IsPair}
use Rattle.account.specs.Journal.{Journal}
use Rattle.account.specs.Positions.{open_positions}
use Rattle.account.specs.Ranges.{IsPriced}
use Rattle.account.specs.StopOut.{PriceList, equity_of, worst}
use Rattle.account.proofs.Bounds.{few_open}
use Rattle.positions.specs.Money.{event_net, IsCountable}
use Rattle.positions.proofs.Room.{IsLight, light_counted}
use Rattle.desk.specs.declared.fault.DeskFault.{DeskFault}
use Rattle.desk.specs.declared.fault.DeskFault.TheVariants.{DealsExhausted, RequestsExhausted, OutOfMemory}
use Rattle.desk.specs.Books.{Kept}
use Rattle.desk.specs.Effect.{Run, act, closing_of, stopped_out}
use Rattle.desk.specs.Runs.{Runs, after_run}
use Rattle.desk.specs.Sound.{IsKept, IsSound, AreQuoted}
use Rattle.desk.specs.State.{Quoted, journal_of}
use Rattle.desk.specs.Tickets.{last_order}
use Rattle.desk.proofs.Days.{day_small}
use Rattle.desk.proofs.FiringRuns.{full_act, run_from, run_left, still_kept}
use Rattle.desk.proofs.Sums.{balance_le}

light : (spec : AccountSpec) (prices : PriceList) (times : List (Option ℤ)) (last n : ℕ) (p : Position) → AreQuoted spec prices times → IsKept spec prices times last n p → IsLight prices p
light spec prices times last n p q k = record { held = k.held; priced = k.priced; swap = omega (arith, k.swap, day_small times p.symbol q.moments) }

counted : (q : Quoted) → AreQuoted q.spec q.prices q.times → IsSound q.spec q.prices q.times q.events → All IsPair q.prices → IsCountable q.spec q.prices (balance q.events) (open_positions q.events) []
counted q a s d =
    let b : unsigned_abs (balance q.events) ≤ 2 ^ 119 = balance_le q.spec q.events s.account s.first s.few s.nets in
    light_counted q.spec q.prices (balance q.events) (open_positions q.events) [] s.account d a.symbols
    (λ i p e. light q.spec q.prices q.times (last_order q.events) (length (deals q.events)) (slice_index_or (open_positions q.events) i p) a (s.positions i p e))
    (omega (arith, few_open q.events, s.few)) (omega (arith, b)) (All-nil (λ e. FitsSigned w128 (event_net e))) (omega arith)

add_none : (b : ℤ) → b +ℤ pos 0 ≡ b
add_none b = omega (arith, ints)

priced : (q : Quoted) → AreQuoted q.spec q.prices q.times → IsSound q.spec q.prices q.times q.events → All IsPair q.prices → IsPriced q.spec q.prices q.events
priced q a s d =
    let c : IsCountable q.spec q.prices (balance q.events) (open_positions q.events) [] = counted q a s d in
    record {
      priced = λ i p e. (s.positions i p e).priced;
      floating = λ i p e. (c.floats i p e).fits;
      equity = subst (λ (b : ℤ). FitsSigned w128 (equity_of q.spec.specs q.prices b (open_positions q.events))) (add_none (balance q.events)) c.worth;
    }

-- what the ledger asks for
pub is_priced : (q : Quoted) (j : Journal) (prices : PriceList) → j ≡ journal_of q → prices ≡ q.prices → AreQuoted q.spec q.prices q.times → IsSound q.spec q.prices q.times q.events → All IsPair prices → IsPriced j.spec prices j.events
is_priced q j prices e f a s d = rw e (rw f (priced q a s (subst (λ (ps : PriceList). All IsPair ps) f d)))

-- where the journal is full no position is closed
stopped_full : (spec : AccountSpec) (prices : PriceList) (time_ms : ℤ) (n : ℕ) (run : Run) → run.full ≡ true → stopped_out spec prices time_ms n run ≡ run
stopped_full spec prices time_ms zero run h = refl
stopped_full spec prices time_ms (suc n) run h =
    elim (worst spec prices run.events) as (λ o. option_map_or (λ (t : ℕ). stopped_out spec prices time_ms n (act (closing_of spec prices time_ms reason.StopOut t) run)) o run ≡ run) [
      | None ↦ refl
      | Some t ↦ ap (λ (r : Run). stopped_out spec prices time_ms n r) (full_act (closing_of spec prices time_ms reason.StopOut t) run h) ∙ stopped_full spec prices time_ms n run h
    ]

-- books on which so many positions may still be closed
pub record IsStopping (time_ms : ℤ) (b0 b : Kept) (most left : ℕ) : Type 0 where
  pub whole : b.broken ≡ false
  pub kept : b ≡ after_run (run_from b) b0
  pub others : stopped_out b0.quoted.spec b0.quoted.prices time_ms left (run_from b) ≡ stopped_out b0.quoted.spec b0.quoted.prices time_ms most (run_from b0)
  pub few : length (open_positions b.quoted.events) ≤ left

pub stopping_begins : (time_ms : ℤ) (b : Kept) (left : ℕ) → b.broken ≡ false → left ≡ length (open_positions b.quoted.events) → IsStopping time_ms b b (length (open_positions b.quoted.events)) left
stopping_begins time_ms b left h e = rw e (record { whole = h; kept = refl; others = refl; few = omega arith })

-- a position is to be closed
next_closed : (time_ms : ℤ) (b0 b : Kept) (n t : ℕ) → b ≡ after_run (run_from b) b0 → worst b.quoted.spec b.quoted.prices b.quoted.events ≡ Some t → stopped_out b0.quoted.spec b0.quoted.prices time_ms (suc n) (run_from b) ≡ stopped_out b0.quoted.spec b0.quoted.prices time_ms n (act (closing_of b.quoted.spec b.quoted.prices time_ms reason.StopOut t) (run_from b))
next_closed time_ms b0 b n t k h =
    let w : worst b0.quoted.spec b0.quoted.prices b.quoted.events ≡ Some t = sym (ap (λ (x : Kept). worst x.quoted.spec x.quoted.prices b.quoted.events) k) ∙ h in
    ap (λ (o : Option ℕ). option_map_or (λ (u : ℕ). stopped_out b0.quoted.spec b0.quoted.prices time_ms n (act (closing_of b0.quoted.spec b0.quoted.prices time_ms reason.StopOut u) (run_from b))) o (run_from b)) w
    ∙ ap (λ (x : Kept). stopped_out b0.quoted.spec b0.quoted.prices time_ms n (act (closing_of x.quoted.spec x.quoted.prices time_ms reason.StopOut t) (run_from b))) (sym k)

pub stopping_goes : (time_ms : ℤ) (b0 b b' : Kept) (most left n t : ℕ) (u : Unit {0}) → IsStopping time_ms b0 b most left → left ≡ n + 1 → worst b.quoted.spec b.quoted.prices b.quoted.events ≡ Some t → Runs b (act (closing_of b.quoted.spec b.quoted.prices time_ms reason.StopOut t) (run_from b)) (Ok u) b' → length (open_positions b'.quoted.events) + 1 ≤ length (open_positions b.quoted.events) → IsStopping time_ms b0 b' most n
stopping_goes time_ms b0 b b' most left n t u w e g h d =
    let run : Run = act (closing_of b.quoted.spec b.quoted.prices time_ms reason.StopOut t) (run_from b) in
    let r : run ≡ run_from b' = run_left b b' run u h in
    let s : left ≡ suc n = omega (arith, e) in
    record {
      whole = ap (λ (k : Kept). k.broken) h.1 ∙ w.whole;
      kept = still_kept b0 b b' run w.kept h.1 ∙ ap (λ (k : Run). after_run k b0) r;
      others = ap (λ (k : Run). stopped_out b0.quoted.spec b0.quoted.prices time_ms n k) (sym r) ∙ sym (next_closed time_ms b0 b n t w.kept g)
          ∙ ap (λ (m : ℕ). stopped_out b0.quoted.spec b0.quoted.prices time_ms m (run_from b)) (sym s) ∙ w.others;
      few = omega (arith, w.few, d, e);
    }

-- its deal finds no room, or there is no memory
pub stopping_stops : (time_ms : ℤ) (b0 b b' : Kept) (most left t : ℕ) (e : DeskFault) → IsStopping time_ms b0 b most left → 1 ≤ left → worst b.quoted.spec b.quoted.prices b.quoted.events ≡ Some t → Runs {A = Unit {0}} b (act (closing_of b.quoted.spec b.quoted.prices time_ms reason.StopOut t) (run_from b)) (Err e) b' → Runs {A = Unit {0}} b0 (stopped_out b0.quoted.spec b0.quoted.prices time_ms most (run_from b0)) (Err e) b'
stopping_stops time_ms b0 b b' most zero t DealsExhausted w l g h = absurd (omega (arith, l))
stopping_stops time_ms b0 b b' most (suc n) t DealsExhausted w l g h =
    let run : Run = act (closing_of b.quoted.spec b.quoted.prices time_ms reason.StopOut t) (run_from b) in
    let same : stopped_out b0.quoted.spec b0.quoted.prices time_ms most (run_from b0) ≡ run = sym w.others ∙ next_closed time_ms b0 b n t w.kept g ∙ stopped_full b0.quoted.spec b0.quoted.prices time_ms n run h.0 in
    subst (λ (k : Run). (k.full ≡ true) × (b' ≡ after_run k b0)) (sym same) (h.0, still_kept b0 b b' run w.kept h.1)
stopping_stops time_ms b0 b b' most left t RequestsExhausted w l g h = absurd h
stopping_stops time_ms b0 b b' most left t OutOfMemory w l g h = h

-- none is due, or no position is left
by_end : (b0 b : Kept) (run : Run) (u : Unit {0}) → run ≡ run_from b → b ≡ after_run (run_from b) b0 → Runs b0 run (Ok u) b
by_end b0 b run u e k = subst (λ (r : Run). (r.full ≡ false) × (b ≡ after_run r b0)) (sym e) (refl, k)

none_due : (spec : AccountSpec) (prices : PriceList) (time_ms : ℤ) (n : ℕ) (run : Run) → worst spec prices run.events ≡ None → stopped_out spec prices time_ms n run ≡ run
none_due spec prices time_ms zero run h = refl
none_due spec prices time_ms (suc n) run h = ap (λ (o : Option ℕ). option_map_or (λ (t : ℕ). stopped_out spec prices time_ms n (act (closing_of spec prices time_ms reason.StopOut t) run)) o run) h

pub stopping_done : (time_ms : ℤ) (b0 b : Kept) (most left : ℕ) (u : Unit {0}) → IsStopping time_ms b0 b most left → worst b.quoted.spec b.quoted.prices b.quoted.events ≡ None → Runs b0 (stopped_out b0.quoted.spec b0.quoted.prices time_ms most (run_from b0)) (Ok u) b
stopping_done time_ms b0 b most left u w h =
    let n : worst b0.quoted.spec b0.quoted.prices b.quoted.events ≡ None = sym (ap (λ (x : Kept). worst x.quoted.spec x.quoted.prices b.quoted.events) w.kept) ∙ h in
    by_end b0 b (stopped_out b0.quoted.spec b0.quoted.prices time_ms most (run_from b0)) u (sym w.others ∙ none_due b0.quoted.spec b0.quoted.prices time_ms left (run_from b) n) w.kept

pub stopping_ends : (time_ms : ℤ) (b0 b : Kept) (most left : ℕ) (u : Unit {0}) → IsStopping time_ms b0 b most left → left ≡ 0 → Runs b0 (stopped_out b0.quoted.spec b0.quoted.prices time_ms most (run_from b0)) (Ok u) b
stopping_ends time_ms b0 b most left u w e =
    by_end b0 b (stopped_out b0.quoted.spec b0.quoted.prices time_ms most (run_from b0)) u (sym w.others ∙ ap (λ (m : ℕ). stopped_out b0.quoted.spec b0.quoted.prices time_ms m (run_from b)) e) w.kept
