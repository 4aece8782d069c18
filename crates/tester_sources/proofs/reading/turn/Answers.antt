use Rattle.std.proofs.Common.{refl}
use Rattle.std.proofs.lemmas.Result.{err_from_is_err_and}
use Rattle.tester_sources.proofs.SourceLemmas.{files_refused, needed_refused, may_go_on}
use Rattle.tester_answer.proofs.PlanLemmas.{only_read_same}
use Rattle.tester_sources.proofs.reading.turn.Goals as goal

pub returns-in_err-next-clause-refused : goal.returns-in_err-next-clause-refused
returns-in_err-next-clause-refused g c =
    let p = err_from_is_err_and c.from_residual.result c.from_residual.ensures.1 in
    let now = (g.F.Files.seen c.args.files.now) in
    rw (p.1, p.2) (files_refused c.args.entry.now c.args.sources.now now now _ (c.needed_in_turn.ensures.few c.args.entry.now c.args.sources.now c.requires.turns) c.in_err-next.ensures.refused)

pub returns-in-Tokens-clause-read : goal.returns-in-Tokens-clause-read
returns-in-Tokens-clause-read g c = let e = rw c.in-Tokens.is at c.in_ok-next.ensures.found in (refl, e.0, e.1)

pub returns-in_err-source-in-File-clause-refused : goal.returns-in_err-source-in-File-clause-refused
returns-in_err-source-in-File-clause-refused g c =
    let p = err_from_is_err_and c.from_residual-in_err-source-in-File.result c.from_residual-in_err-source-in-File.ensures.1 in
    let before = (g.F.Files.seen c.args.files.now) in
    let needs = rw c.in-File.is at c.in_ok-next.ensures.found in
    rw (p.1, p.2)
    (needed_refused c.args.entry.now c.args.sources.now before before
    (g.F.Files.seen c.read_source.new.files)
    _ c.in-File.name (c.needed_in_turn.ensures.few c.args.entry.now c.args.sources.now c.requires.turns) (only_read_same before) needs.0 c.in_err-source-in-File.ensures.refused)

pub returns-in_ok-push-in-File-clause-read : goal.returns-in_ok-push-in-File-clause-read
returns-in_ok-push-in-File-clause-read g c =
    let n = rw c.in-File.is at c.in_ok-next.ensures.found in
    let grew = c.in_ok-push-in-File.ensures.ok in (
      record { name = c.in-File.name; needs = n.0; added = c.in_ok-source-in-File.source; is = c.in_ok-source-in-File.ensures.read; grew = grew },
      may_go_on c.args.entry.now c.args.sources.now c.push.new.self c.in_ok-source-in-File.source c.in-File.reading c.goes_on.ensures.stands c.goes_on.ensures.fits grew n.1,
    )
