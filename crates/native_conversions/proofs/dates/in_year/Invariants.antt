use Rattle.std.proofs.Common.{◌≡◌, ◌≤◌, ◌+◌}
use Rattle.mql_meaning.specs.Dates.{in_year}
use Rattle.native_conversions.proofs.dates.in_year.Given as goal

abbrev pub invariant-loop-left : goal.invariant-loop-left
invariant-loop-left l = record {
  years : l.year + l.left ≡ l.fn.first + l.fn.years;
  few : l.rest ≤ l.fn.days;
  same : in_year l.left l.year l.rest ≡ in_year l.fn.years l.fn.first l.fn.days;
}

abbrev pub decreases-loop-left : goal.decreases-loop-left
decreases-loop-left l = l.left
