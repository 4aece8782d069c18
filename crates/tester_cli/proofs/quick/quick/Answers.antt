use Rattle.std.proofs.lemmas.Result.{err_from_is_err_and, IfErr-weaker, IfOk-weaker}
use Rattle.std.proofs.Common.{◌∙◌}
use Rattle.tester_cli.specs.Commands.{quick_rest}
use Rattle.tester_cli.proofs.RunLemmas.{sources_refused, behind_refused, program_refused, quick_leads, quick_refused}
use Rattle.tester_cli.proofs.quick.quick.Goals as goal

pub returns-in_err-sources-clause-refused : goal.returns-in_err-sources-clause-refused
returns-in_err-sources-clause-refused g c =
    let p = err_from_is_err_and c.from_residual-in_err-sources.result c.from_residual-in_err-sources.ensures.1 in
    let r = rw c.in_ok-name.ensures at c.in_err-sources.ensures.refused in
    rw (p.1, p.2)
    (sources_refused c.args.expert.now (quick_rest c.args.expert.now c.args.bars.now) (g.F.Files.seen c.args.files.now)
    (g.F.Files.seen c.read_sources.new.files)
    _ r)

pub returns-in_err-code-clause-refused : goal.returns-in_err-code-clause-refused
returns-in_err-code-clause-refused g c =
    let p = err_from_is_err_and c.from_residual-in_err-code.result c.from_residual-in_err-code.ensures.1 in
    let turns = rw c.in_ok-name.ensures at c.in_ok-sources.ensures.read in
    let makes = rw c.in_ok-name.ensures at c.in_ok-sources.ensures.tokens in
    let refused = rw c.in_ok-name.ensures at c.in_err-code.ensures.refused in
    let now = (g.F.Files.seen c.read_sources.new.files) in
    rw (p.1, p.2)
    (behind_refused c.args.expert.now c.in_ok-sources.sources c.in_ok-sources.tokens (quick_rest c.args.expert.now c.args.bars.now) (g.F.Files.seen c.args.files.now) now now
    _ turns c.in_ok-sources.ensures.few makes c.in_ok-sources.ensures.only_read
    (program_refused c.args.expert.now c.args.bars.now c.in_ok-sources.sources c.in_ok-sources.tokens now now _ refused))

pub returns-clause-ready : goal.returns-clause-ready
returns-clause-ready g c =
    let turns = rw c.in_ok-name.ensures at c.in_ok-sources.ensures.read in
    let makes = rw c.in_ok-name.ensures at c.in_ok-sources.ensures.tokens in
    let p = c.in_ok-code.ensures.program in
    IfOk-weaker c.over_bars.result _ _
    (λ text ready held is.
    (quick_leads c.args.expert.now c.args.bars.now c.in_ok-sources.sources c.in_ok-sources.tokens (g.F.Files.seen c.args.files.now).told c.in_ok-code.code p turns c.in_ok-sources.ensures.few makes).gives held is _ text held
    (ready p.checked p.stands held (c.in_ok-sources.ensures.only_read.told ∙ is)))
    c.over_bars.ensures.ready

pub returns-clause-refused : goal.returns-clause-refused
returns-clause-refused g c =
    let turns = rw c.in_ok-name.ensures at c.in_ok-sources.ensures.read in
    let makes = rw c.in_ok-name.ensures at c.in_ok-sources.ensures.tokens in
    let p = c.in_ok-code.ensures.program in
    IfErr-weaker c.over_bars.result _ _
    (λ status refused.
    quick_refused c.args.expert.now c.args.bars.now c.in_ok-sources.sources c.in_ok-sources.tokens (g.F.Files.seen c.args.files.now)
    (g.F.Files.seen c.read_sources.new.files)
    (g.F.Files.seen c.over_bars.new.files)
    status c.in_ok-code.code p turns c.in_ok-sources.ensures.few makes c.in_ok-sources.ensures.only_read (refused p.checked))
    c.over_bars.ensures.refused
