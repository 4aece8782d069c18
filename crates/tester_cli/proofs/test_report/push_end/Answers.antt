use Rattle.std.proofs.Common.{rules, FitsSigned, w32}
use Rattle.std.proofs.lemmas.Int.{to_z-of_z}
use Rattle.std.specs.Fmt.{signed_decimal}
use Rattle.tester_cli.proofs.ReportLemmas.{two_pieces}
use Rattle.tester_cli.proofs.test_report.push_end.Goals as goal

pub returns-in_ok-extend_from_slice-in-InitFailed : goal.returns-in_ok-extend_from_slice-in-InitFailed
returns-in_ok-extend_from_slice-in-InitFailed c =
    let fits : FitsSigned w32 c.in-InitFailed.answer = search rules in
    let h = c.push_signed.ensures in
    let e = c.in_ok-extend_from_slice-in-InitFailed.ensures.ok in
    rw c.in-InitFailed.is (two_pieces c.push_signed.result c.args.text.now _ _ _ (signed_decimal c.in-InitFailed.answer) e (simp to_z-of_z at h))
