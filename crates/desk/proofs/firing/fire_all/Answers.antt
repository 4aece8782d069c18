use Rattle.std.proofs.Common.{◌≡◌, ◌∙◌, FitsSigned, rules, to_z, of_z, w64}
use Rattle.std.proofs.lemmas.Int.{to_z-of_z}
use Rattle.desk.proofs.FiringRuns.{all_fired}
use Rattle.desk.proofs.firing.fire_all.Goals as goal

pub returns : goal.returns
returns g c =
    let f : FitsSigned w64 c.args.quote.now.time_ms = search rules in
    let t : to_z w64 (of_z w64 c.args.quote.now.time_ms) ≡ c.args.quote.now.time_ms = to_z-of_z w64 c.args.quote.now.time_ms f in
    all_fired c.args.books.now c.fire_each.new.books c.as_slice.result.now c.args.quote.now (to_z w64 (of_z w64 c.args.quote.now.time_ms)) c.fire_each.result t
    (c.as_slice.ensures.value ∙ c.in-Ok.ensures) c.fire_each.ensures
