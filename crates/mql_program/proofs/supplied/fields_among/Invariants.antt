use Rattle.std.proofs.Common.{◌≡◌, take}
use Rattle.std.specs.List.{flat_map}
use Rattle.mql_program.specs.Programs.{fields_named}
use Rattle.mql_program.proofs.supplied.fields_among.Given as goal

abbrev pub invariant-loop-layout : goal.invariant-loop-layout
invariant-loop-layout l = l.fields ≡ flat_map (fields_named l.name) (take l.layout-index l.layouts)
