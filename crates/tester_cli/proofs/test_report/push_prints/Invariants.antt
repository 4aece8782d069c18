use Rattle.std.proofs.Common.{take}
use Rattle.tester_cli.specs.Report.{ArePrintLines}
use Rattle.report.specs.Pieces.{Appends}
use Rattle.tester_cli.proofs.test_report.push_prints.Given as goal

abbrev pub invariant-loop-printed : goal.invariant-loop-printed
invariant-loop-printed l = Appends (ArePrintLines (take l.printed-index l.prints)) l.fn.text l.text
