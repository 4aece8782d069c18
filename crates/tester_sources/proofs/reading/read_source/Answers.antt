use Rattle.std.proofs.lemmas.Result.{err_from_is_err_and}
use Rattle.tester_sources.proofs.SourceLemmas.{reading_refused}
use Rattle.tester_sources.proofs.reading.read_source.Goals as goal

pub returns-in_err-bytes-clause-refused : goal.returns-in_err-bytes-clause-refused
returns-in_err-bytes-clause-refused g c =
    let p = err_from_is_err_and c.from_residual.result c.from_residual.ensures.1 in
    rw (p.1, p.2)
    (reading_refused c.args.name (g.F.Files.seen c.args.files.now)
    (g.F.Files.seen c.read.new.files)
    _ c.in_err-bytes.ensures.refused)
