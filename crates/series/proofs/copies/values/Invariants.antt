use Rattle.std.proofs.Common.{◌≡◌}
use Rattle.series.specs.Asked.{values_from}
use Rattle.series.proofs.copies.values.Given as goal

abbrev pub invariant-loop-k : goal.invariant-loop-k
invariant-loop-k l = l.values.items ≡ values_from l.indicator l.bars l.place l.k
