use Rattle.std.proofs.Common.{◌≡◌, length, take}
use Rattle.std.specs.List.{flat_map}
use Rattle.mql_program.specs.Programs.{variables_in}
use Rattle.mql_check.specs.Made.{inputs_from}
use Rattle.mql_check.proofs.inputs.inputs_from.Given as goal

abbrev pub invariant-loop-item : goal.invariant-loop-item
invariant-loop-item g l =
    let s = g.S.SourceFacts.given l.fn.source in
    let p = g.P.ProgramFacts.program l.fn.program in
    let vs = flat_map variables_in (take l.item-index l.items) in
    record {
      made : l.all ≡ inputs_from s p 0 vs;
      numbers : l.n ≡ length vs;
    }
