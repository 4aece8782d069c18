use Rattle.std.proofs.Common.{◌≡◌, ◌∙◌, map}
use Rattle.mql_names.specs.Maps.{meaning}
use Rattle.mql_names.specs.Things.{member_named}
use Rattle.mql_names.proofs.Joined.{at_names}
use Rattle.mql_names.proofs.items.member_scope_told.Goals as goal

pub returns : goal.returns
returns c =
    let e : c.as_slice.result.now ≡ map (member_named (meaning c.args.names.now)) c.args.members.now = c.as_slice.ensures ∙ c.in_ok-named.ensures in
    at_names (meaning c.args.names.now) _ (map (member_named (meaning c.args.names.now)) c.args.members.now) c.scope_told.result e c.scope_told.ensures
