use Rattle.std.specs.Prelude.{◌≡◌, ◌+◌, drop}
use Rattle.mql_meaning.specs.Frames.{held}
use Rattle.store_frames.proofs.parameters.held.Given as goal

abbrev pub invariant-loop-local : goal.invariant-loop-local
invariant-loop-local l = l.all + held (drop l.local-index l.locals) ≡ held l.locals
