use Rattle.std.proofs.Common.{length, refl}
use Rattle.mql_names.specs.Maps.{meaning}
use Rattle.mql_parents.proofs.Joined.{all_told}
use Rattle.mql_parents.proofs.rules.parents_told.Goals as goal

pub returns : goal.returns
returns c =
    all_told (meaning c.args.names.now) c.in_ok-parents.parents c.args.syntax.now c.as_slice-items.result.now (length c.as_slice-items.result.now) c.items_told.result
    c.as_slice-items.ensures refl c.in_ok-parents.ensures c.items_told.ensures
