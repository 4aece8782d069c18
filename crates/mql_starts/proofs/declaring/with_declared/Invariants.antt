use Rattle.std.proofs.Common.{◌≡◌, ◌++◌, take}
use Rattle.mql_starts.proofs.declaring.with_declared.Given as goal

abbrev pub invariant-loop-k : goal.invariant-loop-k
invariant-loop-k l = l.locals ≡ l.fn.locals ++ take l.k-index l.declared
