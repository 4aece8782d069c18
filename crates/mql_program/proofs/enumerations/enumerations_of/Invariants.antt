use Rattle.std.proofs.Common.{◌≡◌, take}
use Rattle.std.specs.List.{flat_map}
use Rattle.mql_program.specs.Programs.{enumeration}
use Rattle.mql_program.proofs.enumerations.enumerations_of.Given as goal

abbrev pub invariant-loop-item : goal.invariant-loop-item
invariant-loop-item g l = l.enumerations ≡ flat_map (enumeration (g.P.ProgramFacts.program l.program)) (take l.item-index l.items)
