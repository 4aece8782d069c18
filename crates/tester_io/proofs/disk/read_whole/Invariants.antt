use Rattle.std.proofs.Common.{◌≤◌, length}
use Rattle.tester_io.proofs.disk.read_whole.Given as goal

-- what was read so far is within the limit
abbrev pub invariant-loop : goal.invariant-loop
invariant-loop g l = length l.bytes ≤ l.limit
