use Rattle.std.proofs.Common.{◌≡◌, map, take}
use Rattle.mql_program.specs.Programs.{supplied_field}
use Rattle.mql_program.proofs.supplied.supplied_fields.Given as goal

abbrev pub invariant-loop-f : goal.invariant-loop-f
invariant-loop-f l = l.fields ≡ map supplied_field (take l.f-index l.supplied)
