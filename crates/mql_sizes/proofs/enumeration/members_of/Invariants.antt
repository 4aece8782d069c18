use Rattle.std.proofs.Common.{◌≡◌, pos, Some, List, ◌++◌, drop}
use Rattle.mql_names.specs.Maps.{meaning}
use Rattle.mql_sizes.specs.declared.member.EnumMember.{EnumMember}
use Rattle.mql_sizes.specs.Members as spec
use Rattle.mql_sizes.specs.Maps.{Holds}
use Rattle.mql_sizes.proofs.enumeration.members_of.Given as goal

abbrev pub invariant-loop-e : goal.invariant-loop-e
invariant-loop-e l = (ms : List EnumMember) → Holds l.fn.values ms →
    (l.members ++ spec.members_of (meaning l.names) (ms ++ l.members) l.next (drop l.e-index l.enumerators) ≡ spec.members_of (meaning l.names) ms (Some (pos 0)) l.enumerators)
    × Holds l.values (ms ++ l.members)
