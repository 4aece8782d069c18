use Rattle.std.proofs.Common.{ap, ◌∙◌}
use Rattle.mql_names.specs.Faults.{sooner}
use Rattle.mql_names.specs.Maps.{meaning}
use Rattle.mql_names.proofs.Joined.{whole_variable}
use Rattle.mql_names.proofs.walk.whole_variable_told.Goals as goal

pub returns : goal.returns
returns c =
    let d = rw c.as_slice.ensures at c.dimensions_told-dimensions.ensures in
    whole_variable (meaning c.args.names.now) c.args.v.now c.sooner-3.result c.type_told-of.result c.variable_told-own.result c.dimensions_told-dimensions.result c.start_told-start.result
    c.type_told-of.ensures c.variable_told-own.ensures d c.start_told-start.ensures
    (c.sooner-3.ensures ∙ ap (sooner c.type_told-of.result) (c.sooner-2.ensures ∙ ap (sooner c.variable_told-own.result) c.sooner.ensures))
