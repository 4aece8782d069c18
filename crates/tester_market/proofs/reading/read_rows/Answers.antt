use Rattle.std.proofs.lemmas.Result.{err_from_is_err_and, IfErr-weaker}
use Rattle.std.proofs.Common.{◌∙◌}
use Rattle.tester_market.specs.Reading.{RowsStatus}
use Rattle.tester_market.proofs.Plans.{rows_unread, rows_refused}
use Rattle.tester_market.proofs.reading.read_rows.Goals as goal

pub returns-in_err-bytes-clause-refused : goal.returns-in_err-bytes-clause-refused
returns-in_err-bytes-clause-refused g c =
    let p = err_from_is_err_and c.from_residual.result c.from_residual.ensures.1 in
    rw (p.1, p.2)
    (rows_unread c.args.mode c.args.name.now (g.F.Files.seen c.args.files.now) (g.F.Files.seen c.read.new.files)
    _ c.in_err-bytes.ensures.refused)

pub returns-clause-refused : goal.returns-clause-refused
returns-clause-refused g c =
    let named = c.in_ok-told.ensures ∙ c.as_slice.ensures in
    let r = rw named at (rw c.as_slice-2.ensures at c.judge_rows.ensures.refused) in
    IfErr-weaker c.judge_rows.result (RowsStatus c.args.mode c.args.name.now c.in_ok-bytes.bytes) _
    (λ s h. rows_refused c.args.mode c.args.name.now c.in_ok-bytes.bytes (g.F.Files.seen c.args.files.now) (g.F.Files.seen c.read.new.files)
    s c.in_ok-bytes.ensures.read c.read.ensures.only_read h)
    r
