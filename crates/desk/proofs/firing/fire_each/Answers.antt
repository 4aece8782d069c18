use Rattle.std.proofs.Common.{◌≡◌, ℤ, subst, rules, to_z, of_z, w64}
use Rattle.std.proofs.lemmas.Int.{to_z-of_z}
use Rattle.desk.specs.Effect.{acts, triggered_by}
use Rattle.desk.specs.Runs.{Runs}
use Rattle.desk.proofs.FiringRuns.{exit_runs, run_from, stops}
use Rattle.desk.proofs.firing.fire_each.Goals as goal

pub returns-in_err-fire : goal.returns-in_err-fire
returns-in_err-fire g c =
    let t : to_z w64 (of_z w64 c.args.time_ms) ≡ c.args.time_ms = to_z-of_z w64 c.args.time_ms c.ranges.time_ms in
    subst (λ (u : ℤ). Runs {A = Unit {0}} c.args.books.now (acts (triggered_by c.args.books.now.quoted.spec c.args.books.now.quoted.prices u) (run_from c.args.books.now) c.args.triggers.now) c.from_residual.result c.fire.new.books) t
    (exit_runs c.args.books.now c.fire.new.books (acts (triggered_by c.args.books.now.quoted.spec c.args.books.now.quoted.prices (to_z w64 (of_z w64 c.args.time_ms))) (run_from c.args.books.now) c.args.triggers.now) c.from_residual.result c.in_err-fire.field-0.0 c.from_residual.ensures.1
    (stops (λ spec prices. triggered_by spec prices (to_z w64 (of_z w64 c.args.time_ms))) c.args.books.now c.loop-trigger.books c.fire.new.books c.args.triggers.now c.loop-trigger.rest.now c.in-Some.others.now c.in-Some.trigger.now c.in_err-fire.field-0.0 c.loop-trigger.invariant (search rules) c.in_err-fire.ensures))
