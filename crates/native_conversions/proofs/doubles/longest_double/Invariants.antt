use Rattle.std.proofs.Common.{◌≡◌, ◌≤◌, length}
use Rattle.mql_meaning.specs.Texts as texts
use Rattle.native_conversions.proofs.doubles.longest_double.Given as goal

abbrev pub invariant-loop-size : goal.invariant-loop-size
invariant-loop-size l = record {
  within : l.size ≤ length l.bytes;
  same : texts.longest_double l.size l.bytes ≡ texts.longest_double (length l.bytes) l.bytes;
}

abbrev pub decreases-loop-size : goal.decreases-loop-size
decreases-loop-size l = l.size
