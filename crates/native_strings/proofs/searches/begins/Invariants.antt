use Rattle.std.proofs.Common.{◌≡◌, length}
use Rattle.mql_meaning.specs.StringFunctions.{begins}
use Rattle.native_strings.proofs.searches.begins.Given as goal

abbrev pub invariant-loop-left : goal.invariant-loop-left
invariant-loop-left l = begins l.left l.rest ≡ begins l.part l.text

abbrev pub decreases-loop-left : goal.decreases-loop-left
decreases-loop-left l = length l.left
