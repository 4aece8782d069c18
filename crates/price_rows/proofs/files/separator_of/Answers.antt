use Rattle.std.proofs.Common.{◌∙◌, sym}
use Rattle.csv.specs.Records.{fields_of}
use Rattle.price_rows.proofs.Texts.{field_if_some}
use Rattle.price_rows.proofs.Texts.{by_none, by_comma, by_tab}
use Rattle.price_rows.proofs.files.separator_of.Goals as goal

pub returns-then-not-branch-clause-value : goal.returns-then-not-branch-clause-value
returns-then-not-branch-clause-value c = by_none _ (sym c.of-records.ensures ∙ rw c.if-not-branch.true at c.in_ok-next.ensures.next)

pub returns-then-is_some-clause-value : goal.returns-then-is_some-clause-value
returns-then-is_some-clause-value c =
    by_tab _ (fields_of c.next.new.row) c.next.new.self (sym c.of-records.ensures ∙ rw c.if-not-branch.false at c.in_ok-next.ensures.next)
    (sym (field_if_some c.get.result _ c.get.ensures.value) ∙ sym c.is_some.ensures ∙ c.if-is_some.true)

pub returns-clause-value : goal.returns-clause-value
returns-clause-value c =
    by_comma _ (fields_of c.next.new.row) c.next.new.self (sym c.of-records.ensures ∙ rw c.if-not-branch.false at c.in_ok-next.ensures.next)
    (sym (field_if_some c.get.result _ c.get.ensures.value) ∙ sym c.is_some.ensures ∙ c.if-is_some.false)
