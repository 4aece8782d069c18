use Rattle.std.specs.Prelude.{take}
use Rattle.stack_emission.specs.Functions.{AllWritten}
use Rattle.stack_emission.proofs.functions.all_functions.Given as goal

abbrev pub invariant-loop-f : goal.invariant-loop-f
invariant-loop-f l = AllWritten (take l.f-index l.functions) l.written
