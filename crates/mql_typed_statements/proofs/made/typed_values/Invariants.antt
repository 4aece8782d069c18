use Rattle.std.proofs.Common.{◌≡◌, ◌++◌, length}
use Rattle.mql_typed_statements.specs.Statements.{typed_values}
use Rattle.mql_typed_statements.proofs.made.typed_values.Given as goal

abbrev pub invariant-loop-value : goal.invariant-loop-value
invariant-loop-value l =
    l.list ++ typed_values l.rest ≡ typed_values l.fn.values

abbrev pub decreases-loop-value : goal.decreases-loop-value
decreases-loop-value l = length l.rest
