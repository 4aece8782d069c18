use Rattle.std.proofs.Common.{ℕ, ◌<◌, sym, ◌∙◌, subst}
use Rattle.native_conversions.proofs.Calendar.{year_here}
use Rattle.native_conversions.proofs.dates.in_year.Goals as goal

pub returns-then-rest-length : goal.returns-then-rest-length
returns-then-rest-length c =
    c.in_month.ensures
    ∙ sym (year_here c.loop-left.left c.loop-left.year c.loop-left.rest c.loop-left-test.true
    (subst (λ (n : ℕ). c.loop-left.rest < n) c.length_of_year-length.ensures c.if-rest-length.true))
    ∙ c.loop-left.invariant.same
