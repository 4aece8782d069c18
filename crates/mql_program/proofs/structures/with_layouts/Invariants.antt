use Rattle.std.proofs.Common.{◌≡◌, ◌++◌, take}
use Rattle.std.specs.List.{flat_map}
use Rattle.mql_program.specs.Programs.{layout_in}
use Rattle.mql_program.proofs.structures.with_layouts.Given as goal

abbrev pub invariant-loop-item : goal.invariant-loop-item
invariant-loop-item g l = l.layouts ≡ l.fn.layouts ++ flat_map (layout_in (g.P.ProgramFacts.program l.program) l.items l.most) (take l.item-index l.items)
