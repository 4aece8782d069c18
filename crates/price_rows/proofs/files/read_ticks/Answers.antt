use Rattle.std.proofs.Common.{◌≡◌, sym, Some, None, subst, refl, List, ℕ}
use Rattle.csv.specs.Reading.{strip_bom}
use Rattle.price_records.specs.Records.{records}
use Rattle.price_rows.specs.Files.{ticks_of_file, ticks_under_header, units, separator}
use Rattle.price_rows.specs.Views.{Answers}
use Rattle.price_rows.proofs.Texts.{unmarked}
use Rattle.price_rows.proofs.files.read_ticks.Goals as goal

pub returns-in-Some-2-clause-exact : goal.returns-in-Some-2-clause-exact
unfolding ticks_of_file
returns-in-Some-2-clause-exact c =
    let are : Some c.in-Some-2.text.items ≡ units c.in-Some.rest.now = rw c.in-Some-2.is at c.in_ok-text-in-Some.ensures in
    let told =
    subst (λ (x : List ℕ). Answers (ticks_under_header (records (separator (strip_bom x)) (strip_bom x))) c.ticks_of_text.result)
    c.as_slice.ensures.value c.ticks_of_text.ensures.exact in
    let plain =
    subst (λ (x : List ℕ). Answers (ticks_under_header (records (separator x) x)) c.ticks_of_text.result)
    (unmarked c.in-Some.rest.now c.in-Some-2.text.items (sym are)) told in
    rw (c.in-Some.ensures, ← are) plain

pub returns-in-None-2-clause-exact : goal.returns-in-None-2-clause-exact
unfolding ticks_of_file
returns-in-None-2-clause-exact c =
    let are : None ≡ units c.in-Some.rest.now = rw c.in-None-2.is at c.in_ok-text-in-Some.ensures in
    rw (c.in-Some.ensures, ← are) refl

pub returns-in-None-clause-exact : goal.returns-in-None-clause-exact
unfolding ticks_of_file
returns-in-None-clause-exact c = rw c.in-None.ensures c.ticks_of_text-in-None.ensures.exact
