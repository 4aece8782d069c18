use Rattle.std.proofs.Common.{◌≡◌, map, take}
use Rattle.mql_program.specs.Programs.{inherited_field}
use Rattle.mql_program.proofs.structures.all_inherited.Given as goal

abbrev pub invariant-loop-f : goal.invariant-loop-f
invariant-loop-f l = l.taken ≡ map (inherited_field l.access) (take l.f-index l.fields)
