use Rattle.std.proofs.Common.{◌≡◌, take}
use Rattle.mql_program.specs.Lists.{all_lent}
use Rattle.mql_program.specs.Programs.{defined_functions}
use Rattle.mql_program.proofs.functions.defined_functions.Given as goal

abbrev pub invariant-loop-item : goal.invariant-loop-item
invariant-loop-item l = all_lent l.functions ≡ defined_functions (take l.item-index l.items)
