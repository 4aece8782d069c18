use Rattle.std.proofs.Common.{◌≡◌, length}
use Rattle.mql_names.specs.Maps.{meaning}
use Rattle.mql_sizes.specs.Maps.{value_at}
use Rattle.mql_sizes.specs.Sizes.{sizes_hold}
use Rattle.mql_sizes.proofs.size.sizes_hold.Given as goal

abbrev pub invariant-loop-rest : goal.invariant-loop-rest
invariant-loop-rest l = sizes_hold (meaning l.names) (value_at l.values) l.locals l.n l.rest ≡ sizes_hold (meaning l.names) (value_at l.values) l.locals 1 l.dimensions

abbrev pub decreases-loop-rest : goal.decreases-loop-rest
decreases-loop-rest l = length l.rest
