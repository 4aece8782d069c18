use Rattle.std.proofs.Common.{sym, ap, ◌∙◌, ◌++◌, [], ◌∷◌, take}
use Rattle.std.proofs.lemmas.List.{take_more}
use Rattle.tester_cli.proofs.ReportLemmas.{prints_snoc}
use Rattle.tester_cli.proofs.test_report.push_prints.Goals as goal

pub loop-printed-preserved : goal.loop-printed-preserved
loop-printed-preserved c =
    let e = take_more c.args.prints.now c.loop-printed.printed-index c.printed-item.result c.loop-printed-test.true ∙ ap (λ x. take c.loop-printed.printed-index c.args.prints.now ++ x ∷ []) (sym c.printed-item.is) in
    rw e (prints_snoc _ c.printed-item.result _ _ _ c.loop-printed.invariant c.in_ok-push_print.ensures)
