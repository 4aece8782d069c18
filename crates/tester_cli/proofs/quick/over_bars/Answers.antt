use Rattle.std.proofs.lemmas.Result.{err_from_is_err_and}
use Rattle.tester_cli.proofs.RunLemmas.{bars_refused}
use Rattle.tester_cli.proofs.quick.over_bars.Goals as goal

pub returns-in_err-bytes-clause-refused : goal.returns-in_err-bytes-clause-refused
returns-in_err-bytes-clause-refused g c =
    let p = err_from_is_err_and c.from_residual-in_err-bytes.result c.from_residual-in_err-bytes.ensures.1 in
    rw (p.1, p.2) (λ checked.
    bars_refused c.args.bars.now checked (g.F.Files.seen c.args.files.now)
    (g.F.Files.seen c.read.new.files)
    _ c.in_ok-name.name c.in_ok-name.ensures c.in_err-bytes.ensures.refused)
