use Rattle.mql_names.specs.Maps.{meaning}
use Rattle.mql_names.proofs.Joined.{whole_class}
use Rattle.mql_names.proofs.items.class_told.Goals as goal

pub returns : goal.returns
returns c =
    let h = rw c.as_slice.ensures at c.in_ok-scope.ensures in
    let k = rw c.as_slice-2.ensures at c.in_ok-members.ensures in
    whole_class (meaning c.args.names.now) c.args.c.now c.sooner.result c.in_ok-scope.scope c.in_ok-members.members h k c.sooner.ensures
