use Rattle.std.proofs.Common.{◌≡◌, length}
use Rattle.std.specs.Option.{option_copied}
use Rattle.mql_scope.specs.Contexts.{either}
use Rattle.mql_program.specs.Programs.{class_named}
use Rattle.mql_program.proofs.structures.class_named.Given as goal

abbrev pub invariant-loop-rest : goal.invariant-loop-rest
invariant-loop-rest l = either (class_named l.name l.rest) (option_copied l.hit) ≡ class_named l.name l.fn.items

abbrev pub decreases-loop-rest : goal.decreases-loop-rest
decreases-loop-rest l = length l.rest
