use Rattle.std.proofs.Common.{◌≡◌, length}
use Rattle.mql_scope.specs.Names.{member_named}
use Rattle.mql_scope.proofs.variables.member_named.Given as goal

abbrev pub invariant-loop-rest : goal.invariant-loop-rest
invariant-loop-rest l =
    member_named l.name l.number l.rest ≡ member_named l.name 0 l.enumerations

abbrev pub decreases-loop-rest : goal.decreases-loop-rest
decreases-loop-rest l = length l.rest
