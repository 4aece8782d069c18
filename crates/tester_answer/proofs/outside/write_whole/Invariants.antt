use Rattle.std.proofs.Common.{◌≤◌, ◌-◌, length, take}
use Rattle.tester_answer.specs.Clauses.{Gained}
use Rattle.tester_answer.proofs.outside.write_whole.Given as goal

abbrev pub invariant-loop-place : goal.invariant-loop-place
invariant-loop-place g l = record {
  within : l.place ≤ length l.text;
  written : Gained (take l.place l.text) (g.S.Sink.seen l.fn.out) (g.S.Sink.seen l.out);
  counted : (g.S.Sink.seen l.fn.out).write_faults ≤ (g.S.Sink.seen l.out).write_faults;
}

abbrev pub decreases-loop-place : goal.decreases-loop-place
decreases-loop-place g l = length l.text - l.place
