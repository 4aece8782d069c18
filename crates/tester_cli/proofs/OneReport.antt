-- A source has one report over bars.
use Rattle.std.proofs.Common.{◌≡◌, ℕ, List, [], ◌∷◌, ◌++◌, sym, ap, ◌∙◌, subst}
use Rattle.mql_meaning.specs.declared.tree.Checked.{Checked}
use Rattle.market_types.specs.declared.bar.Bar.{Bar}
use Rattle.tester_world.specs.declared.printed.Printed.{Printed}
use Rattle.tester_world.specs.Journal.{shown_text}
use Rattle.tester_pass.specs.declared.result.PassResult.{PassResult}
use Rattle.tester_pass.specs.Laws.{OneOutcome}
use Rattle.report.proofs.OneText.{time_once}
use Rattle.tester_cli.specs.Report.{IsPrintLine, ArePrintLines, IsReport, report_head}
use Rattle.tester_cli.specs.Commands.{Reports, opening_quotes}

line_once : (printed : Printed) (a b : List ℕ) → IsPrintLine printed a → IsPrintLine printed b → a ≡ b
line_once printed a b p q =
    p.is ∙ ap (λ t. t ++ 32 ∷ shown_text printed.text ++ 10 ∷ []) (time_once printed.time_ms p.time q.time p.is_time q.is_time) ∙ sym q.is

lines_once : (prints : List Printed) (a b : List ℕ) → ArePrintLines prints a → ArePrintLines prints b → a ≡ b
lines_once [] a b p q = p ∙ sym q
lines_once (printed ∷ more) a b p q =
    p.4 ∙ ap (λ l. l ++ p.1) (line_once printed p.0 q.0 p.2 q.2) ∙ ap (λ r. q.0 ++ r) (lines_once more p.1 q.1 p.3 q.3) ∙ sym q.4

report_once : (result : PassResult) (a b : List ℕ) → IsReport result a → IsReport result b → a ≡ b
report_once result a b p q = p.is ∙ ap (λ l. report_head result ++ l) (lines_once result.prints p.prints q.prints p.are_prints q.are_prints) ∙ sym q.is

pub reports_once : OneOutcome → (checked : Checked) (bars : List Bar) (a b : List ℕ) → Reports checked bars a → Reports checked bars b → a ≡ b
reports_once one checked bars a b p q =
    report_once p.result a b p.is_report
    (subst (λ r. IsReport r b) (sym (one checked [] (opening_quotes bars) p.result q.result p.passes q.passes)) q.is_report)
