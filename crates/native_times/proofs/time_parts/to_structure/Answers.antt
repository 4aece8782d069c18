use Rattle.std.proofs.Common.{◌≡◌, ℤ, unsigned_abs, to_z, of_z, sym, ap, ◌∙◌}
use Rattle.std.specs.Int.{w128}
use Rattle.std.proofs.lemmas.Int.{to_z-of_z}
use Rattle.mql_meaning.specs.Dates.{has_date}
use Rattle.store_places.specs.Seen.{seen}
use Rattle.native_times.proofs.Structures.{becomes}
use Rattle.native_times.proofs.time_parts.to_structure.Goals as goal

pub returns : goal.returns
returns c =
    let t : to_z w128 (of_z w128 c.args.time) ≡ c.args.time = to_z-of_z w128 c.args.time c.ranges.time in
    becomes c.args.time c.in-Some.second (seen c.args.target) c.with_fields.result c.args.store.now
    (ap has_date (sym t) ∙ c.in-Some.ensures.0) (ap (λ (x : ℤ). unsigned_abs x) (sym t) ∙ c.in-Some.ensures.1)
    c.with_fields.ensures
