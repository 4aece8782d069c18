use Rattle.std.proofs.Common.{◌≡◌, ◌++◌, length}
use Rattle.native_conversions.specs.Stretches.{double_stretch}
use Rattle.native_conversions.proofs.doubles.stretch.Given as goal

abbrev pub invariant-loop-rest : goal.invariant-loop-rest
invariant-loop-rest l = l.bytes ++ double_stretch l.rest ≡ double_stretch l.fn.text

abbrev pub decreases-loop-rest : goal.decreases-loop-rest
decreases-loop-rest l = length l.rest
