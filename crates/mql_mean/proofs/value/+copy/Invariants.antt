use Rattle.std.specs.Prelude.{◌≡◌, take}
use Rattle.mql_mean.proofs.value.+copy.Given as goal

abbrev pub invariant-copies-loop-value : goal.invariant-copies-loop-value
invariant-copies-loop-value l = l.copies ≡ take l.value-index l.values
