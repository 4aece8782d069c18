use Rattle.std.proofs.Common.{◌≡◌, take}
use Rattle.mql_program.specs.Lists.{all_lent}
use Rattle.mql_program.specs.Programs.{announced_functions}
use Rattle.mql_program.proofs.functions.announced_functions.Given as goal

abbrev pub invariant-loop-item : goal.invariant-loop-item
invariant-loop-item l = all_lent l.functions ≡ announced_functions (take l.item-index l.items)
