use Rattle.std.proofs.Common.{◌≡◌, ◌≤◌, length, take}
use Rattle.mql_meaning.specs.StringFunctions.{trimmed_right}
use Rattle.native_strings.proofs.trims.trimmed_right.Given as goal

abbrev pub invariant-loop-end : goal.invariant-loop-end
invariant-loop-end l = record {
  within : l.end ≤ length l.text;
  same : trimmed_right (take l.end l.text) ≡ trimmed_right l.text;
}

abbrev pub decreases-loop-end : goal.decreases-loop-end
decreases-loop-end l = l.end
