use Rattle.std.proofs.Common.{◌≡◌, false, length}
use Rattle.desk_cases.proofs.course.follow.Given as goal

abbrev pub invariant-loop-line : goal.invariant-loop-line
invariant-loop-line g l = record {
  open_desk : l.desk.closed ≡ false;
  one : length l.desk.quoted.spec.specs ≡ 1;
}
