use Rattle.std.proofs.Common.{◌≡◌, ◌∙◌, arith, ℤ, to_z, of_z, w64, refl, Some, ap, sym, subst}
use Rattle.std.proofs.lemmas.Int.{ints}
use Rattle.jiff_core.specs.Date.{epoch_day}
use Rattle.calendar.specs.Days.{instant}
use Rattle.market_types.specs.Ordered.{IsMoment}
use Rattle.calendar.proofs.Days.{is_day_from}
use Rattle.calendar.proofs.Instants.{instant_from, can_from, day_from, range_from}
use Rattle.calendar.proofs.instant.instant_of.Goals as goal

pub instant_on-requires-clause-day : goal.instant_on-requires-clause-day
instant_on-requires-clause-day c =
    let can = can_from c.args.year c.args.month c.args.day c.if-year-gt2999.false c.if-month-gt12.false c.if-day-gt31.false (c.in-Ok.ensures.succeeds.0 refl) in
    let day = day_from c.in-Ok.date c.args.year c.args.month c.args.day c.if-year-gt2999.false c.if-month-gt12.false c.if-day-gt31.false c.in-Ok.ensures.value in
    range_from c.in-Ok.date c.args.year c.args.month c.args.day c.if-year-lt1970.false c.if-year-gt2999.false day can

pub returns-clause-value : goal.returns-clause-value
returns-clause-value c =
    let can = can_from c.args.year c.args.month c.args.day c.if-year-gt2999.false c.if-month-gt12.false c.if-day-gt31.false (c.in-Ok.ensures.succeeds.0 refl) in
    let day = day_from c.in-Ok.date c.args.year c.args.month c.args.day c.if-year-gt2999.false c.if-month-gt12.false c.if-day-gt31.false c.in-Ok.ensures.value in
    let range = range_from c.in-Ok.date c.args.year c.args.month c.args.day c.if-year-lt1970.false c.if-year-gt2999.false day can in
    let within = instant_from (epoch_day c.in-Ok.date) c.args.clock_ms range c.requires in
    let value : to_z w64 (of_z w64 c.instant_on.result) ≡ instant (epoch_day c.in-Ok.date) c.args.clock_ms = omega (arith, ints, c.instant_on.ensures, within) in
    rw (is_day_from c.args.year c.args.month c.args.day c.if-year-lt1970.false c.if-year-gt2999.false can) (ap Some (value ∙ ap (λ (z : ℤ). instant z c.args.clock_ms) day))

pub returns-clause-range : goal.returns-clause-range
returns-clause-range c =
    let can = can_from c.args.year c.args.month c.args.day c.if-year-gt2999.false c.if-month-gt12.false c.if-day-gt31.false (c.in-Ok.ensures.succeeds.0 refl) in
    let day = day_from c.in-Ok.date c.args.year c.args.month c.args.day c.if-year-gt2999.false c.if-month-gt12.false c.if-day-gt31.false c.in-Ok.ensures.value in
    let range = range_from c.in-Ok.date c.args.year c.args.month c.args.day c.if-year-lt1970.false c.if-year-gt2999.false day can in
    let within = instant_from (epoch_day c.in-Ok.date) c.args.clock_ms range c.requires in
    let value : to_z w64 (of_z w64 c.instant_on.result) ≡ instant (epoch_day c.in-Ok.date) c.args.clock_ms = omega (arith, ints, c.instant_on.ensures, within) in
    subst (λ (x : ℤ). IsMoment x) (sym value) (record { from = within.0; to = within.1 })
