use Rattle.std.proofs.lemmas.Result.{err_from_is_err_and, IfErr-weaker}
use Rattle.tester_market.specs.Reading.{SettingsStatus}
use Rattle.tester_market.proofs.Plans.{settings_unread, settings_refused}
use Rattle.tester_market.proofs.reading.read_test_settings.Goals as goal

pub returns-in_err-bytes-clause-refused : goal.returns-in_err-bytes-clause-refused
returns-in_err-bytes-clause-refused g c =
    let p = err_from_is_err_and c.from_residual.result c.from_residual.ensures.1 in
    rw (p.1, p.2)
    (settings_unread c.args.need c.args.name.now (g.F.Files.seen c.args.files.now) (g.F.Files.seen c.read.new.files)
    _ c.in_err-bytes.ensures.refused)

pub returns-clause-refused : goal.returns-clause-refused
returns-clause-refused g c =
    let r = rw c.as_slice.ensures at c.judge_settings.ensures.refused in
    IfErr-weaker c.judge_settings.result (SettingsStatus c.args.need c.in_ok-bytes.bytes) _
    (λ s h. settings_refused c.args.need c.args.name.now c.in_ok-bytes.bytes (g.F.Files.seen c.args.files.now) (g.F.Files.seen c.read.new.files)
    s c.in_ok-bytes.ensures.read c.read.ensures.only_read h)
    r
