use Rattle.std.proofs.Common.{◌≡◌, map, take}
use Rattle.mql_statements.specs.Closing.{some, has_break}
use Rattle.mql_statements.proofs.closing.+breaks.Given as goal

abbrev pub invariant-some_break-loop-s : goal.invariant-some_break-loop-s
invariant-some_break-loop-s l = l.found ≡ some (map has_break (take l.s-index l.parts))
