use Rattle.std.proofs.Common.{arith}
use Rattle.std.proofs.lemmas.Result.{err_from_is_err_and}
use Rattle.tester_answer.proofs.PlanLemmas.{only_read_on, only_read_same}
use Rattle.mql_preproc.specs.Turns as turns
use Rattle.tester_sources.specs.Reading.{none}
use Rattle.tester_sources.proofs.SourceLemmas.{program_refused, turn_on, met_in_turn}
use Rattle.tester_sources.proofs.reading.read_sources.Goals as goal

pub loop-sources-init : goal.loop-sources-init
loop-sources-init g c = rw c.new-sources.ensures (only_read_same _, (λ held is. none), turns.none, (λ k d lt. absurd (omega (arith, lt))), tt)

pub returns-in_err-turned-clause-refused : goal.returns-in_err-turned-clause-refused
returns-in_err-turned-clause-refused g c =
    let p = err_from_is_err_and c.from_residual.result c.from_residual.ensures.1 in
    let i = c.loop-sources.invariant in
    rw (p.1, p.2)
    (program_refused c.args.entry.now c.loop-sources.sources (g.F.Files.seen c.args.files.now) (g.F.Files.seen c.loop-sources.files) (g.F.Files.seen c.turn.new.files)
    _ i.1 (c.needed_in_turn.ensures.few c.args.entry.now c.loop-sources.sources i.2) i.0 c.in_err-turned.ensures.refused)

pub loop-sources-preserved : goal.loop-sources-preserved
loop-sources-preserved g c =
    let i = c.loop-sources.invariant in
    let r = c.in_ok-turned.ensures in
    let met = rw c.in-More.is at r.read in
    (only_read_on _ _ _ i.0 r.only_read, turn_on c.args.entry.now (g.F.Files.seen c.args.files.now).told (g.F.Files.seen c.loop-sources.files).told c.loop-sources.sources c.turn.new.sources i.0.told i.1 met.0, met_in_turn c.args.entry.now (g.F.Files.seen c.loop-sources.files).told c.loop-sources.sources c.turn.new.sources i.2 met.0, r.still_short, met.1)
