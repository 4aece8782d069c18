use Rattle.std.proofs.Common.{◌≡◌, arith, sym}
use Rattle.std.proofs.lemmas.Grind.{common_steps}
use Rattle.mql_starts.proofs.Beginnings.{value_parts, held, constant_braces}
use Rattle.mql_starts.proofs.initialisers.+are_constant.Goals as goal

pub are_constant-returns-then-is_braces : goal.are_constant-returns-then-is_braces
are_constant-returns-then-is_braces g t c =
    let p = g.P.ProgramFacts.program c.args.program.now in
    let ks = c.args.locals.now in
    let v = c.args.v.now in
    let parts : c.as_slice.result.now ≡ value_parts v = grind (arith, common_steps) in
    held _ _ _ (constant_braces p ks v _ c.as_slice.result.now (grind (arith, common_steps)) parts (sym c.if-is_braces.ensures)) c.all_are_constant.ensures
