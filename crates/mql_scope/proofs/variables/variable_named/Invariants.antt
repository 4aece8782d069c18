use Rattle.std.proofs.Common.{◌≡◌, ◌≤◌, length, take}
use Rattle.mql_scope.specs.Contexts.{variable_named}
use Rattle.mql_scope.proofs.variables.variable_named.Given as goal

abbrev pub invariant-loop-n : goal.invariant-loop-n
invariant-loop-n l =
    (l.n ≤ length l.known) × (variable_named l.name (take l.n l.known) ≡ variable_named l.name l.known)

abbrev pub decreases-loop-n : goal.decreases-loop-n
decreases-loop-n l = l.n
