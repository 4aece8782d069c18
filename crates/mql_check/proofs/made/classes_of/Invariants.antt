use Rattle.std.proofs.Common.{◌≡◌, ◌++◌, length, map}
use Rattle.mql_check.specs.Made.{class_of}
use Rattle.mql_check.proofs.made.classes_of.Given as goal

abbrev pub invariant-loop-rest : goal.invariant-loop-rest
invariant-loop-rest l = l.all ++ map class_of l.rest ≡ map class_of l.fn.layouts

abbrev pub decreases-loop-rest : goal.decreases-loop-rest
decreases-loop-rest l = length l.rest
