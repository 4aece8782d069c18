use Rattle.std.proofs.Common.{◌≡◌, ◌≤◌, length, take}
use Rattle.mql_scope.specs.Contexts.{number_named, layout_names}
use Rattle.mql_scope.proofs.types.layout_named.Given as goal

abbrev pub invariant-loop-n : goal.invariant-loop-n
invariant-loop-n l =
    (l.n ≤ length l.layouts)
    × (number_named l.name (layout_names (take l.n l.layouts)) 0
    ≡ number_named l.name (layout_names l.layouts) 0)

abbrev pub decreases-loop-n : goal.decreases-loop-n
decreases-loop-n l = l.n
