use Rattle.std.proofs.Common.{◌≡◌, ◌++◌, take}
use Rattle.std.specs.List.{flat_map}
use Rattle.mql_program.specs.Programs.{field}
use Rattle.mql_program.proofs.structures.with_own_fields.Given as goal

abbrev pub invariant-loop-member : goal.invariant-loop-member
invariant-loop-member g l = l.fields ≡ l.fn.fields ++ flat_map (field (g.P.ProgramFacts.program l.program)) (take l.member-index l.members)
