use Rattle.std.proofs.Common.{◌≡◌, length}
use Rattle.mql_scope.specs.Names.{has_function}
use Rattle.mql_scope.proofs.names.has_function.Given as goal

abbrev pub invariant-loop-rest : goal.invariant-loop-rest
invariant-loop-rest l =
    has_function l.name l.rest ≡ has_function l.name l.functions

abbrev pub decreases-loop-rest : goal.decreases-loop-rest
decreases-loop-rest l = length l.rest
