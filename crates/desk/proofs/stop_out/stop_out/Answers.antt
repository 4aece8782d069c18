use Rattle.std.proofs.Common.{◌≡◌, ◌-◌, ℤ, length, Some, None, Ok, subst, arith, rules, to_z, of_z, w64}
use Rattle.std.proofs.lemmas.Int.{to_z-of_z}
use Rattle.account.specs.declared.deal.DealReason.TheVariants as reason
use Rattle.account.specs.Positions.{open_positions}
use Rattle.account.specs.StopOut.{worst}
use Rattle.desk.specs.Effect.{stopped_out_run}
use Rattle.desk.specs.Runs.{Runs}
use Rattle.desk.proofs.FiringRuns.{exit_runs, run_from}
use Rattle.desk.proofs.StopOutDue.{stopping_done, stopping_goes, stopping_stops}
use Rattle.desk.proofs.StopOutEnds.{closes_one}
use Rattle.desk.proofs.stop_out.stop_out.Goals as goal

pub returns-in_err-close_position-clause-runs : goal.returns-in_err-close_position-clause-runs
returns-in_err-close_position-clause-runs g c =
    let t : to_z w64 (of_z w64 c.args.time_ms) ≡ c.args.time_ms = to_z-of_z w64 c.args.time_ms c.ranges.time_ms in
    let w : worst c.loop-left.books.quoted.spec c.loop-left.books.quoted.prices c.loop-left.books.quoted.events ≡ Some c.in-Some.ticket = search rules in
    subst (λ (u : ℤ). Runs {A = Unit {0}} c.args.books.now (stopped_out_run c.args.books.now.quoted.spec c.args.books.now.quoted.prices u (run_from c.args.books.now)) c.from_residual.result c.close_position.new.books) t
    (exit_runs c.args.books.now c.close_position.new.books (stopped_out_run c.args.books.now.quoted.spec c.args.books.now.quoted.prices (to_z w64 (of_z w64 c.args.time_ms)) (run_from c.args.books.now)) c.from_residual.result c.in_err-close_position.field-0.0 c.from_residual.ensures.1
    (stopping_stops (to_z w64 (of_z w64 c.args.time_ms)) c.args.books.now c.loop-left.books c.close_position.new.books (length (open_positions c.args.books.now.quoted.events)) c.loop-left.left c.in-Some.ticket c.in_err-close_position.field-0.0 c.loop-left.invariant (omega arith) w c.in_err-close_position.ensures))

pub returns-in_default-clause-runs : goal.returns-in_default-clause-runs
returns-in_default-clause-runs g c =
    let t : to_z w64 (of_z w64 c.args.time_ms) ≡ c.args.time_ms = to_z-of_z w64 c.args.time_ms c.ranges.time_ms in
    let w : worst c.loop-left.books.quoted.spec c.loop-left.books.quoted.prices c.loop-left.books.quoted.events ≡ None = search rules in
    subst (λ (u : ℤ). Runs {A = Unit {0}} c.args.books.now (stopped_out_run c.args.books.now.quoted.spec c.args.books.now.quoted.prices u (run_from c.args.books.now)) (Ok tt) c.loop-left.books) t
    (stopping_done (to_z w64 (of_z w64 c.args.time_ms)) c.args.books.now c.loop-left.books (length (open_positions c.args.books.now.quoted.events)) c.loop-left.left tt c.loop-left.invariant w)

pub loop-left-preserved : goal.loop-left-preserved
loop-left-preserved g c =
    let w : worst c.loop-left.books.quoted.spec c.loop-left.books.quoted.prices c.loop-left.books.quoted.events ≡ Some c.in-Some.ticket = search rules in
    stopping_goes (to_z w64 (of_z w64 c.args.time_ms)) c.args.books.now c.loop-left.books c.close_position.new.books (length (open_positions c.args.books.now.quoted.events)) c.loop-left.left (c.loop-left.left - 1) c.in-Some.ticket c.in_ok-close_position.field-0 c.loop-left.invariant
    (omega (arith, c.loop-left-test.true)) w c.in_ok-close_position.ensures
    (closes_one c.loop-left.books c.close_position.new.books (to_z w64 (of_z w64 c.args.time_ms)) reason.StopOut c.in-Some.ticket c.in_ok-close_position.field-0 c.is_sound.ensures.quoted c.is_sound.ensures.sound w c.in_ok-close_position.ensures)
