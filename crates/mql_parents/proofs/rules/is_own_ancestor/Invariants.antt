use Rattle.std.proofs.Common.{◌≡◌}
use Rattle.mql_names.specs.Scopes.{is_among}
use Rattle.mql_parents.specs.Parents.{ancestors}
use Rattle.mql_parents.specs.Maps.{parent_at}
use Rattle.mql_parents.proofs.rules.is_own_ancestor.Given as goal

abbrev pub invariant-loop-left : goal.invariant-loop-left
invariant-loop-left l = is_among l.name (ancestors (parent_at l.parents) l.left l.at) ≡ is_among l.name (ancestors (parent_at l.parents) l.most l.name)

abbrev pub decreases-loop-left : goal.decreases-loop-left
decreases-loop-left l = l.left
