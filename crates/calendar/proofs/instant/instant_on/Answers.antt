use Rattle.std.proofs.Common.{◌≡◌, ◌∙◌, arith, sym, pos, ◌*ℤ◌, true≢false}
use Rattle.std.proofs.lemmas.Int.{ints}
use Rattle.jiff_core.specs.Date.{epoch_day}
use Rattle.calendar.specs.Days.{instant}
use Rattle.calendar.proofs.Instants.{nanos_all, quot_back, instant_from}
use Rattle.calendar.proofs.instant.instant_on.Goals as goal

pub returns-in_default-to_timestamp : goal.returns-in_default-to_timestamp
returns-in_default-to_timestamp c =
    let n = nanos_all c.to_datetime.result c.args.date c.in-Ok.time c.args.clock_ms c.requires.clock c.in-Ok.ensures.value c.to_datetime.ensures.date c.to_datetime.ensures.time in
    let within = instant_from _ _ c.requires.day c.requires.clock in
    absurd (true≢false (sym (c.in_default-to_timestamp.ensures.succeeds.1 (omega (arith, ints, n, within), omega (arith, ints, n, within)))))

pub returns : goal.returns
returns c =
    let n = nanos_all c.to_datetime.result c.args.date c.in-Ok.time c.args.clock_ms c.requires.clock c.in-Ok.ensures.value c.to_datetime.ensures.date c.to_datetime.ensures.time in
    let within = instant_from _ _ c.requires.day c.requires.clock in
    let same : c.in-Ok-to_timestamp.at.nanosecond ≡ instant (epoch_day c.args.date) c.args.clock_ms *ℤ pos 1000000 = omega (arith, ints, n, c.in-Ok-to_timestamp.ensures.value) in
    let ms = c.as_millisecond.ensures ∙ quot_back _ _ within.0 same in
    omega (arith, ints, ms, within)
