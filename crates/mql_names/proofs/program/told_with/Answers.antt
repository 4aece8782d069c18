use Rattle.std.proofs.Common.{ap, ◌∙◌}
use Rattle.mql_names.specs.Faults.{sooner}
use Rattle.mql_names.specs.Maps.{meaning}
use Rattle.mql_names.proofs.Joined.{whole_program}
use Rattle.mql_names.proofs.program.told_with.Goals as goal

pub returns : goal.returns
returns c =
    let h = rw c.as_slice.ensures at c.in_ok-scope.ensures in
    let k = rw c.as_slice-2.ensures at c.in_ok-items.ensures in
    whole_program (meaning c.args.names.now) c.args.syntax.now c.sooner-2.result c.program_told.result c.in_ok-scope.scope c.in_ok-items.items c.program_told.ensures h k (c.sooner-2.ensures ∙ ap (sooner c.program_told.result) c.sooner.ensures)
