use Rattle.std.proofs.Common.{◌≡◌, ◌≤◌, ◌+◌}
use Rattle.mql_meaning.specs.Dates.{in_month}
use Rattle.native_conversions.proofs.dates.in_month.Given as goal

abbrev pub invariant-loop-left : goal.invariant-loop-left
invariant-loop-left l = record {
  months : l.month + l.left ≡ l.fn.first + l.fn.months;
  few : l.rest ≤ l.fn.days;
  same : in_month l.left l.fn.year l.fn.day_of_year l.month l.rest ≡ in_month l.fn.months l.fn.year l.fn.day_of_year l.fn.first l.fn.days;
}

abbrev pub decreases-loop-left : goal.decreases-loop-left
decreases-loop-left l = l.left
