use Rattle.std.proofs.Common.{◌≡◌, false}
use Rattle.desk_cases.proofs.acts.send.Given as goal

abbrev pub invariant-turns : goal.invariant-turns
invariant-turns g l = record {
  open_desk : l.desk.closed ≡ false;
  spec : l.desk.quoted.spec ≡ l.fn.desk.quoted.spec;
}
