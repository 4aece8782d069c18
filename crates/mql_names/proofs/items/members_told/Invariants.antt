use Rattle.std.proofs.Common.{◌≡◌, take}
use Rattle.std.specs.List.{flat_map}
use Rattle.mql_names.specs.Maps.{meaning}
use Rattle.mql_names.specs.Things.{member_things}
use Rattle.mql_names.specs.Rules.{told_of}
use Rattle.mql_names.proofs.items.members_told.Given as goal

abbrev pub invariant-loop-member : goal.invariant-loop-member
invariant-loop-member l = l.told ≡ told_of (meaning l.names) (flat_map member_things (take l.member-index l.members))
