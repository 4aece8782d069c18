use Rattle.std.proofs.lemmas.Result.{IfOk-weaker}
use Rattle.tester_cli.proofs.QuoteLemmas.{reports_over}
use Rattle.tester_cli.proofs.quick.report.Goals as goal

pub returns : goal.returns
returns c =
    IfOk-weaker c.report_text.result _ _
    (λ text is checked stands.
    reports_over checked c.args.code.now c.args.bars _ c.new.result c.in_ok-outcome.outcome text
    c.code_passes_as_source.ensures stands c.in_ok-market.ensures c.new.ensures c.in_ok-outcome.ensures.passes is)
    c.report_text.ensures
