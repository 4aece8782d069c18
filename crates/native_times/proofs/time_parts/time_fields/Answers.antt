use Rattle.std.proofs.Common.{◌≡◌, ℕ, List, IfOk, map, subst}
use Rattle.mql_meaning.specs.Natives.{whole}
use Rattle.native_conversions.specs.Days.{date_of}
use Rattle.native_times.proofs.Fields.{fields_are}
use Rattle.native_times.proofs.time_parts.time_fields.Goals as goal

pub returns : goal.returns
returns c =
    subst (λ (ns : List ℕ). IfOk c.wholes.result (λ vs. vs ≡ map whole ns))
    (fields_are c.args.second c.day_of_week.result (date_of c.date-day.result) c.date-day.ensures c.day_of_week.ensures)
    c.wholes.ensures
