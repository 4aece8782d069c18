use Rattle.std.proofs.Common.{◌≡◌, ◌-◌, drop, length}
use Rattle.mql_meaning.specs.StringFunctions.{find_from}
use Rattle.native_strings.proofs.searches.find.Given as goal

abbrev pub invariant-loop-place : goal.invariant-loop-place
invariant-loop-place l = find_from l.place l.part (drop l.place l.text) ≡ find_from l.start l.part (drop l.start l.text)

abbrev pub decreases-loop-place : goal.decreases-loop-place
decreases-loop-place l = length l.text - l.place
