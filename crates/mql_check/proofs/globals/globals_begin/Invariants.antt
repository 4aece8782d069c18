use Rattle.std.proofs.Common.{◌≡◌, length, take}
use Rattle.std.specs.List.{flat_map}
use Rattle.mql_program.specs.Programs.{variables_in}
use Rattle.mql_check.specs.Globals.{globals_begin}
use Rattle.mql_check.proofs.globals.globals_begin.Given as goal

abbrev pub invariant-loop-item : goal.invariant-loop-item
invariant-loop-item g l =
    let p = g.P.ProgramFacts.program l.fn.program in
    let vs = flat_map variables_in (take l.item-index l.items) in
    record {
      begun : l.all ≡ globals_begin p 0 0 vs;
      locals : l.next ≡ length l.all.kept;
      numbers : l.n ≡ length vs;
    }
