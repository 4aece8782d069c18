use Rattle.std.proofs.Common.{◌≡◌, length}
use Rattle.mql_scope.specs.Names.{member_value}
use Rattle.mql_scope.proofs.variables.member_value.Given as goal

abbrev pub invariant-loop-rest : goal.invariant-loop-rest
invariant-loop-rest l =
    member_value l.name l.rest ≡ member_value l.name l.members

abbrev pub decreases-loop-rest : goal.decreases-loop-rest
decreases-loop-rest l = length l.rest
