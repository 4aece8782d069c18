-- Minutes by milliseconds.
use Rattle.std.proofs.Common.{◌≡◌, ℕ, ◌*◌, ◌/◌, ◌<◌, ℤ, pos, negsuc, to_z, of_z, w64, subst, ◌+ℤ◌, ◌*ℤ◌, ◌≤ℤ◌, sym, ap, ◌∙◌, arith, Some, None, Option}
use Rattle.std.proofs.lemmas.Int.{ints}
use Rattle.std.specs.Prelude.{int_div}
use Rattle.calendar.specs.Days.{instant}
use Rattle.decimals.specs.Texts.{given}
use Rattle.market_types.specs.Ordered.{IsMoment, IsMinute}

quot_thousand : (k : ℕ) → k * 1000 / 1000 ≡ k
quot_thousand k = omega arith

seconds_back : (x y : ℤ) → pos 0 ≤ℤ x → y ≡ x *ℤ pos 1000 → int_div y (pos 1000) ≡ x
seconds_back (negsuc k) y h e = absurd (omega (arith, ints))
seconds_back (pos k) y h e = rw e (ap pos (quot_thousand k))

-- a day and minutes, in seconds
abbrev minutes_on : ℤ → ℕ → ℤ
minutes_on d m = d *ℤ pos 86400 +ℤ pos (m * 60)

is_minute : (d : ℤ) (m : ℕ) → m < 1440 → IsMoment (instant d (m * 60000)) → IsMinute (minutes_on d m)
is_minute (negsuc d) m h p = absurd (omega (arith, ints, p.from))
is_minute (pos d) m h p = record { from = omega (arith, ints); to = omega (arith, ints, p.to); minute = omega (arith, ints) }

minute_at : (d ms : ℤ) (m : ℕ) → m < 1440 → IsMoment ms → ms ≡ instant d (m * 60000) → (int_div ms (pos 1000) ≡ minutes_on d m) × IsMinute (minutes_on d m)
minute_at d ms m h p e =
    let is = is_minute d m h (subst (λ (x : ℤ). IsMoment x) e p) in
    (seconds_back (minutes_on d m) ms is.from (omega (arith, ints, e)), is)

-- when a bar opens, by the milliseconds then
pub minute_is : (o : Option ℤ) (ms : ℤ) (m : ℕ) → m < 1440 → IsMoment ms → Some ms ≡ given o (λ d. Some (instant d (m * 60000)))
    → (Some (int_div ms (pos 1000)) ≡ given o (λ d. Some (d *ℤ pos 86400 +ℤ pos (m * 60)))) × IsMinute (int_div ms (pos 1000))
minute_is None ms m h p e = absurd (cc)
minute_is (Some d) ms m h p e =
    let same : ms ≡ instant d (m * 60000) = cc in
    let at = minute_at d ms m h p same in
    (ap Some at.0, subst (λ (x : ℤ). IsMinute x) (sym at.0) at.1)

-- a moment fits 64 bits
kept : (z : ℤ) → pos 0 ≤ℤ z → z ≤ℤ pos 32503679999999 → to_z w64 (of_z w64 z) ≡ z
kept z a b = omega (arith, ints)

pub seconds_kept : (ms : ℤ) → IsMoment ms → IsMinute (int_div ms (pos 1000))
    → to_z w64 (of_z w64 (int_div (to_z w64 (of_z w64 ms)) (pos 1000))) ≡ int_div ms (pos 1000)
seconds_kept ms p q =
    ap (λ (z : ℤ). to_z w64 (of_z w64 (int_div z (pos 1000)))) (kept ms p.from p.to) ∙ kept (int_div ms (pos 1000)) q.from (omega (arith, ints, q.to))
