use Rattle.std.proofs.Common.{◌≡◌, ◌++◌, length, map}
use Rattle.std.specs.List.{flat_map}
use Rattle.mql_check.specs.Made.{static_steps, static_type}
use Rattle.mql_check.proofs.made.statics_done.Given as goal

abbrev pub invariant-loop-one : goal.invariant-loop-one
invariant-loop-one l =
    record {
      steps : l.steps ++ flat_map static_steps l.rest ≡ flat_map static_steps l.fn.statics;
      types : l.types ++ map static_type l.rest ≡ map static_type l.fn.statics;
    }

abbrev pub decreases-loop-one : goal.decreases-loop-one
decreases-loop-one l = length l.rest
