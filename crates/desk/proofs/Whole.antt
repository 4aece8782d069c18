-- The parts of a quote's effect make up the whole.
use Rattle.std.proofs.Common.{◌≡◌, ◌∙◌, ℕ, suc, zero, true, false, Some, None, Result, Ok, Err, ℤ, refl, ap, sym, subst}
use Rattle.std.specs.Option.{option_map_or}
use Rattle.std.specs.Prelude.{is_err}
use Rattle.market_types.specs.declared.quote.Quote.{Quote}
use Rattle.account.specs.declared.account_spec.AccountSpec.{AccountSpec}
use Rattle.account.specs.declared.deal.DealReason.TheVariants as reason
use Rattle.account.specs.Orders.{orders_in_force}
use Rattle.account.specs.StopOut.{PriceList, worst}
use Rattle.desk.specs.declared.fault.DeskFault.{DeskFault}
use Rattle.desk.specs.declared.fault.DeskFault.TheVariants as desk_fault
use Rattle.desk.specs.Books.{Kept, gained}
use Rattle.desk.specs.Effect.{Run, act, closing_of, swaps, expiries, swapped_run, expired_run, triggered_run, stopped_out, stopped_out_run, effect, with_quote}
use Rattle.desk.specs.Runs.{Runs, after_run}
use Rattle.desk.proofs.Ended.{IsLike, so_far, run_left, runs_like, act_full, left_ok, after_like}

stopped_full : (spec : AccountSpec) (prices : PriceList) (time_ms : ℤ) (n : ℕ) (run : Run) → run.full ≡ true → stopped_out spec prices time_ms n run ≡ run
stopped_full spec prices time_ms zero run h = refl
stopped_full spec prices time_ms (suc n) run h = elim (worst spec prices run.events) as (λ o. option_map_or (λ t. stopped_out spec prices time_ms n (act (closing_of spec prices time_ms reason.StopOut t) run)) o run ≡ run) [
  | None ↦ refl
  | Some t ↦ ap (λ (r : Run). stopped_out spec prices time_ms n r) (act_full (closing_of spec prices time_ms reason.StopOut t) run h) ∙ stopped_full spec prices time_ms n run h
]

-- books at a quote's prices and time
abbrev pub at_quote : Quote → Kept → Kept
at_quote quote b = record b { quoted = with_quote quote b.quoted }

-- what swap and expiry leave
record AreBegun (b b2 : Kept) (quote : Quote) : Type 0 where
  run : so_far b2 ≡ expired_run quote (swapped_run b.quoted quote)
  like : IsLike b2 (at_quote quote b)

begun : (b b1 b2 : Kept) (quote : Quote) → b.broken ≡ false → b1 ≡ gained (swaps b.quoted quote) (at_quote quote b) → b2 ≡ gained (expiries quote (orders_in_force b1.quoted.events)) b1 → AreBegun b b2 quote
begun b b1 b2 quote w e f = rw f (rw e (record { run = refl; like = record { spec = refl; prices = refl; times = refl; broken = refl } }))

fired_is : (b b2 : Kept) (quote : Quote) → AreBegun b b2 quote → triggered_run b2.quoted.spec b2.quoted.prices quote (so_far b2) ≡ triggered_run b.quoted.spec (with_quote quote b.quoted).prices quote (expired_run quote (swapped_run b.quoted quote))
fired_is b b2 quote h =
    ap (λ (s : AccountSpec). triggered_run s b2.quoted.prices quote (so_far b2)) h.like.spec
    ∙ ap (λ (p : PriceList). triggered_run b.quoted.spec p quote (so_far b2)) h.like.prices
    ∙ ap (λ (r : Run). triggered_run b.quoted.spec (with_quote quote b.quoted).prices quote r) h.run

pub effect_stops : (b b1 b2 b3 : Kept) (quote : Quote) (r : Result (Unit {0}) DeskFault) → b.broken ≡ false → b1 ≡ gained (swaps b.quoted quote) (at_quote quote b) → b2 ≡ gained (expiries quote (orders_in_force b1.quoted.events)) b1 → is_err r ≡ true → Runs b2 (triggered_run b2.quoted.spec b2.quoted.prices quote (so_far b2)) r b3 → Runs (at_quote quote b) (effect b.quoted quote) r b3
effect_stops b b1 b2 b3 quote r w e f x k = stop_by b b2 b3 quote r (begun b b1 b2 quote w e f) x k
  where
    stop_by : (b b2 b3 : Kept) (quote : Quote) (r : Result (Unit {0}) DeskFault) → AreBegun b b2 quote → is_err r ≡ true → Runs b2 (triggered_run b2.quoted.spec b2.quoted.prices quote (so_far b2)) r b3 → Runs (at_quote quote b) (effect b.quoted quote) r b3
    stop_by b b2 b3 quote (Ok done) h x k = absurd (cc)
    stop_by b b2 b3 quote (Err desk_fault.DealsExhausted) h x k =
        let fired : Run = triggered_run b2.quoted.spec b2.quoted.prices quote (so_far b2) in
        let same : fired ≡ effect b.quoted quote = sym (stopped_full b.quoted.spec (with_quote quote b.quoted).prices quote.time_ms _ fired k.0) ∙ ap (λ (r : Run). stopped_out_run b.quoted.spec (with_quote quote b.quoted).prices quote.time_ms r) (fired_is b b2 quote h) in
        subst (λ (r : Run). Runs {A = Unit {0}} (at_quote quote b) r (Err desk_fault.DealsExhausted) b3) same (runs_like {A = Unit {0}} b2 (at_quote quote b) fired (Err desk_fault.DealsExhausted) b3 h.like k)
    stop_by b b2 b3 quote (Err desk_fault.RequestsExhausted) h x k = absurd k
    stop_by b b2 b3 quote (Err desk_fault.OutOfMemory) h x k = k

pub effect_ends : (b b1 b2 b3 b4 : Kept) (quote : Quote) (x r : Result (Unit {0}) DeskFault) → b.broken ≡ false → b1 ≡ gained (swaps b.quoted quote) (at_quote quote b) → b2 ≡ gained (expiries quote (orders_in_force b1.quoted.events)) b1 → is_err x ≡ false → Runs b2 (triggered_run b2.quoted.spec b2.quoted.prices quote (so_far b2)) x b3 → Runs b3 (stopped_out_run b3.quoted.spec b3.quoted.prices quote.time_ms (so_far b3)) r b4 → Runs (at_quote quote b) (effect b.quoted quote) r b4
effect_ends b b1 b2 b3 b4 quote x r w e f n k m = end_by b b2 b3 b4 quote r (begun b b1 b2 quote w e f) (left_ok b2 b3 (triggered_run b2.quoted.spec b2.quoted.prices quote (so_far b2)) x n k) m
  where
    end_by : (b b2 b3 b4 : Kept) (quote : Quote) (r : Result (Unit {0}) DeskFault) → AreBegun b b2 quote → ((triggered_run b2.quoted.spec b2.quoted.prices quote (so_far b2)).full ≡ false) × (b3 ≡ after_run (triggered_run b2.quoted.spec b2.quoted.prices quote (so_far b2)) b2) → Runs b3 (stopped_out_run b3.quoted.spec b3.quoted.prices quote.time_ms (so_far b3)) r b4 → Runs (at_quote quote b) (effect b.quoted quote) r b4
    end_by b b2 b3 b4 quote r h k m =
        let fired : Run = triggered_run b2.quoted.spec b2.quoted.prices quote (so_far b2) in
        let left : IsLike b3 (at_quote quote b) = after_like b2 b3 (at_quote quote b) fired k.1 h.like in
        let same : stopped_out_run b3.quoted.spec b3.quoted.prices quote.time_ms (so_far b3) ≡ effect b.quoted quote =
        ap (λ (s : AccountSpec). stopped_out_run s b3.quoted.prices quote.time_ms (so_far b3)) left.spec
        ∙ ap (λ (p : PriceList). stopped_out_run b.quoted.spec p quote.time_ms (so_far b3)) left.prices
        ∙ ap (λ (r : Run). stopped_out_run b.quoted.spec (with_quote quote b.quoted).prices quote.time_ms r) (sym (run_left b2 b3 fired k.0 k.1) ∙ fired_is b b2 quote h) in
        subst (λ (run : Run). Runs (at_quote quote b) run r b4) same (runs_like b3 (at_quote quote b) (stopped_out_run b3.quoted.spec b3.quoted.prices quote.time_ms (so_far b3)) r b4 left m)
