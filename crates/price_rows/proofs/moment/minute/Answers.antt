use Rattle.std.proofs.Common.{ℤ, sym, subst}
use Rattle.market_types.specs.Ordered.{IsMinute}
use Rattle.price_rows.specs.Moments.{date_of}
use Rattle.price_rows.proofs.Instants.{minute_is, seconds_kept}
use Rattle.price_rows.proofs.moment.minute.Goals as goal

pub returns-clause-range : goal.returns-clause-range
returns-clause-range c =
    let ms = c.in_ok-ms.ms in
    let is = (minute_is (date_of c.args.date.now) ms c.in_ok-minutes.minutes c.in_ok-minutes.ensures.within c.in_ok-ms.ensures.range c.in_ok-ms.ensures.value).1 in
    subst (λ (x : ℤ). IsMinute x) (sym (seconds_kept ms c.in_ok-ms.ensures.range is)) is
