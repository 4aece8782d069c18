use Rattle.std.proofs.Common.{◌≡◌, ◌++◌, replicate}
use Rattle.native_strings.proofs.edits.add_units.Given as goal

abbrev pub invariant-loop-i : goal.invariant-loop-i
invariant-loop-i l = l.out ≡ l.fn.out ++ replicate l.i l.unit
