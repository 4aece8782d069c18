use Rattle.std.proofs.Common.{◌≡◌, rules}
use Rattle.mql_meaning.specs.Dates as dates
use Rattle.native_functions.proofs.Moments.{parts_are}
use Rattle.native_functions.proofs.text_parts.time_parts.Goals as goal

pub returns : goal.returns
returns c =
    let day : c.as_slice.result.now ≡ dates.moment_text c.args.second = search rules in
    let clock : c.as_slice-2.result.now ≡ dates.moment_text c.args.second = search rules in
    parts_are c.day_part-day.result.now c.clock_part-clock.result.now c.args.second c.args.flags c.apart.result
    (c.day_part-day.ensures c.args.second day) (c.clock_part-clock.ensures c.args.second clock) c.apart.ensures
