use Rattle.std.proofs.Common.{◌≡◌, ◌+◌, length, option_map}
use Rattle.mql_scope.specs.Contexts.{either}
use Rattle.mql_expressions.specs.Rules.{field_in}
use Rattle.mql_expressions.proofs.members.field_in.Given as goal

abbrev pub invariant-loop-rest : goal.invariant-loop-rest
invariant-loop-rest l =
    (either (field_in l.rest l.name l.n) (option_map (λ f. (f.0, f.1.now)) l.hit) ≡ field_in l.fn.fields l.name 0)
    × (l.n + length l.rest ≡ length l.fn.fields)

abbrev pub decreases-loop-rest : goal.decreases-loop-rest
decreases-loop-rest l = length l.rest
