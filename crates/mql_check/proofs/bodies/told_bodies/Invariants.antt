use Rattle.std.proofs.Common.{◌≡◌, ◌+◌, length, take}
use Rattle.mql_program.specs.Programs.{defined_functions}
use Rattle.mql_check.specs.Functions.{bodies}
use Rattle.mql_check.proofs.bodies.told_bodies.Given as goal

abbrev pub invariant-loop-item : goal.invariant-loop-item
invariant-loop-item g l =
    let p = g.P.ProgramFacts.program l.fn.program in
    record {
      told : l.all ≡ bodies p l.fn.first (defined_functions (take l.item-index l.items));
      numbers : l.statics ≡ l.fn.first + length l.all.statics;
    }
