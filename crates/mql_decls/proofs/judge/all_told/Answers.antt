use Rattle.std.proofs.Common.{◌∙◌, ap}
use Rattle.mql_names.specs.Faults.{sooner}
use Rattle.mql_names.specs.Maps.{meaning}
use Rattle.mql_decls.proofs.Joined.{of_all}
use Rattle.mql_decls.proofs.judge.all_told.Goals as goal

pub returns : goal.returns
returns c =
    of_all (meaning c.args.names.now) c.args.syntax.now c.sooner-4.result c.sooner-2.result c.sooner-3.result c.in_ok-of.of c.in_ok-constants.constants c.in_ok-bodies.bodies c.in_ok-nesting.nesting c.in_ok-parents.parents
    c.in_ok-of.ensures c.in_ok-constants.ensures c.in_ok-bodies.ensures c.in_ok-nesting.ensures c.in_ok-parents.ensures
    (c.sooner-2.ensures ∙ ap (sooner c.in_ok-of.of) c.sooner.ensures) c.sooner-3.ensures c.sooner-4.ensures
