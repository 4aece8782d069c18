use Rattle.std.specs.Prelude.{◌≡◌, take}
use Rattle.stack_emission.proofs.copies.copy_members.Given as goal

abbrev pub invariant-loop-member : goal.invariant-loop-member
invariant-loop-member l = l.copies ≡ take l.member-index l.members
