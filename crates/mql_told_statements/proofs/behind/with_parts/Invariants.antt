use Rattle.std.proofs.Common.{◌≡◌, ◌++◌, length}
use Rattle.mql_statements.specs.Told.{joined}
use Rattle.mql_told_statements.proofs.behind.with_parts.Given as goal

abbrev pub invariant-loop-t : goal.invariant-loop-t
invariant-loop-t l = record {
  statics : l.gathered.statics ++ (joined l.rest).statics ≡ l.fn.all.statics ++ (joined l.fn.parts).statics;
  broken : l.gathered.broken ++ (joined l.rest).broken ≡ l.fn.all.broken ++ (joined l.fn.parts).broken;
  used : l.gathered.used ++ (joined l.rest).used ≡ l.fn.all.used ++ (joined l.fn.parts).used;
}

abbrev pub decreases-loop-t : goal.decreases-loop-t
decreases-loop-t l = length l.rest
