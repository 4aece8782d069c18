use Rattle.std.proofs.Common.{◌≡◌, ℤ, FitsSigned, to_z, of_z, w64, subst, arith, rules}
use Rattle.std.proofs.lemmas.Int.{ints, to_z-of_z}
use Rattle.positions.proofs.Lengths.{of_ok}
use Rattle.desk.specs.Effect.{stopped_out_run}
use Rattle.desk.specs.Runs.{Runs}
use Rattle.desk.proofs.Ended.{so_far}
use Rattle.desk.proofs.Whole.{effect_stops, effect_ends}
use Rattle.desk.proofs.effect.effect.Goals as goal

pub returns-then-is_err-3-clause-runs : goal.returns-then-is_err-3-clause-runs
returns-then-is_err-3-clause-runs g c =
    effect_stops c.args.books.now c.accrue.new.books c.expire.new.books c.fire_all-fired.new.books c.args.quote.now c.fire_all-fired.result c.requires.whole
    (of_ok c.accrue.result _ (search rules) c.accrue.ensures.ok) (of_ok c.expire.result _ (search rules) c.expire.ensures.ok) (search rules) c.fire_all-fired.ensures

pub returns-clause-runs : goal.returns-clause-runs
returns-clause-runs g c =
    let fits : FitsSigned w64 c.args.quote.now.time_ms = omega (arith, ints, c.requires.quote.moment.from, c.requires.quote.moment.to) in
    let t : to_z w64 (of_z w64 c.args.quote.now.time_ms) ≡ c.args.quote.now.time_ms = to_z-of_z w64 c.args.quote.now.time_ms fits in
    let b3 = c.fire_all-fired.new.books in
    effect_ends c.args.books.now c.accrue.new.books c.expire.new.books b3 c.stop_out.new.books c.args.quote.now c.fire_all-fired.result c.stop_out.result c.requires.whole
    (of_ok c.accrue.result _ (search rules) c.accrue.ensures.ok) (of_ok c.expire.result _ (search rules) c.expire.ensures.ok) (search rules) c.fire_all-fired.ensures
    (subst (λ (z : ℤ). Runs b3 (stopped_out_run b3.quoted.spec b3.quoted.prices z (so_far b3)) c.stop_out.result c.stop_out.new.books) t c.stop_out.ensures.runs)
