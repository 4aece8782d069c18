use Rattle.std.proofs.Common.{◌∙◌}
use Rattle.std.proofs.lemmas.Result.{err_from_is_err_and}
use Rattle.tester_market.proofs.QuotesPlan.{unmarketed}
use Rattle.tester_market.proofs.command.quotes.Goals as goal

pub returns-in_err-market-clause-refused : goal.returns-in_err-market-clause-refused
returns-in_err-market-clause-refused g c =
    let p = err_from_is_err_and c.from_residual-in_err-market.result c.from_residual-in_err-market.ensures.1 in
    let named = c.in_ok-name.ensures ∙ c.as_bytes.ensures.value in
    let has = rw named at c.in_ok-file.ensures.read in
    rw (p.1, p.2)
    (unmarketed c.args.settings.now c.in_ok-file.file (g.F.Files.seen c.args.files.now) (g.F.Files.seen c.read_test_settings.new.files) (g.F.Files.seen c.read_market.new.files)
    _ has c.in_ok-file.ensures.only_read c.in_err-market.ensures.refused)
