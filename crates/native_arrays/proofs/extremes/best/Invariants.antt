use Rattle.std.specs.Prelude.{◌≡◌, ◌+◌, Some, drop}
use Rattle.mql_meaning.specs.ArrayFunctions.{best, best_from}
use Rattle.native_arrays.specs.Extremes.{better}
use Rattle.native_arrays.proofs.extremes.best.Given as goal

abbrev pub invariant-loop-other : goal.invariant-loop-other
invariant-loop-other l = record {
  found : best (better l.extreme) l.start l.numbers
      ≡ Some (best_from (better l.extreme) (l.place + 1) l.at l.number (drop l.other-index l.others));
  there : l.place ≡ l.start + l.other-index;
}
