use Rattle.std.proofs.Common.{◌≡◌, ◌++◌, length, map}
use Rattle.mql_check.specs.Made.{field_type}
use Rattle.mql_check.proofs.made.field_types.Given as goal

abbrev pub invariant-loop-rest : goal.invariant-loop-rest
invariant-loop-rest l = l.all ++ map field_type l.rest ≡ map field_type l.fn.fields

abbrev pub decreases-loop-rest : goal.decreases-loop-rest
decreases-loop-rest l = length l.rest
