use Rattle.std.proofs.Common.{◌≡◌, ◌≤◌, length, take}
use Rattle.mql_scope.specs.Contexts.{number_named, enumeration_names}
use Rattle.mql_scope.proofs.types.enumeration_named.Given as goal

abbrev pub invariant-loop-n : goal.invariant-loop-n
invariant-loop-n l =
    (l.n ≤ length l.enumerations)
    × (number_named l.name (enumeration_names (take l.n l.enumerations)) 0
    ≡ number_named l.name (enumeration_names l.enumerations) 0)

abbrev pub decreases-loop-n : goal.decreases-loop-n
decreases-loop-n l = l.n
