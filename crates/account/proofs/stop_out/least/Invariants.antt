use Rattle.std.proofs.Common.{◌≡◌, Some, length}
use Rattle.std.specs.List.{All}
use Rattle.account.specs.StopOut.{floating, least, lesser}
use Rattle.account.specs.Ranges.{Floats}
use Rattle.account.proofs.stop_out.least.Given as goal

abbrev pub invariant-loop-position : goal.invariant-loop-position
invariant-loop-position l =
    (least (floating l.specs l.prices) l.fn.positions ≡ Some (lesser (floating l.specs l.prices) l.best (least (floating l.specs l.prices) l.rest)))
    × Floats l.specs l.prices l.best × All (Floats l.specs l.prices) l.rest

abbrev pub decreases-loop-position : goal.decreases-loop-position
decreases-loop-position l = length l.rest
