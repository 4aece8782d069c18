use Rattle.std.proofs.Common.{◌≡◌, take}
use Rattle.std.specs.List.{flat_map}
use Rattle.mql_names.specs.Faults.{told}
use Rattle.mql_sizes.specs.Members.{valueless}
use Rattle.mql_sizes.proofs.enumeration.enumerations_told.Given as goal

abbrev pub invariant-loop-n : goal.invariant-loop-n
invariant-loop-n l = l.told ≡ told (flat_map valueless (take l.n-index l.enumerations))
