use Rattle.std.proofs.Common.{◌≡◌, ◌++◌, take}
use Rattle.mql_program.proofs.supplied.with_copies.Given as goal

abbrev pub invariant-loop-f : goal.invariant-loop-f
invariant-loop-f l = l.fields ≡ l.fn.fields ++ take l.f-index l.more
