use Rattle.std.proofs.Common.{◌≡◌, length, Some}
use Rattle.mql_meaning.specs.Objects.{is_kind_in}
use Rattle.stack_operators.proofs.casts.is_kind.Given as goal

abbrev pub invariant-loop-left : goal.invariant-loop-left
invariant-loop-left l =
    is_kind_in l.left l.classes l.wanted (Some l.at)
    ≡ is_kind_in (length l.classes) l.classes l.wanted (Some l.fn.class)

abbrev pub decreases-loop-left : goal.decreases-loop-left
decreases-loop-left l = l.left
