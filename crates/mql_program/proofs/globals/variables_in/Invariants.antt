use Rattle.std.proofs.Common.{◌≡◌, take}
use Rattle.std.specs.List.{flat_map}
use Rattle.mql_program.specs.Lists.{all_lent}
use Rattle.mql_program.specs.Programs.{variables_in}
use Rattle.mql_program.proofs.globals.variables_in.Given as goal

abbrev pub invariant-loop-item : goal.invariant-loop-item
invariant-loop-item l = all_lent l.variables ≡ flat_map variables_in (take l.item-index l.items)
