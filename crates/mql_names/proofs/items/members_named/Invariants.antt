use Rattle.std.proofs.Common.{◌≡◌, map, take}
use Rattle.mql_names.specs.Maps.{meaning}
use Rattle.mql_names.specs.Things.{member_named}
use Rattle.mql_names.proofs.items.members_named.Given as goal

abbrev pub invariant-loop-member : goal.invariant-loop-member
invariant-loop-member l = l.named ≡ map (member_named (meaning l.names)) (take l.member-index l.members)
