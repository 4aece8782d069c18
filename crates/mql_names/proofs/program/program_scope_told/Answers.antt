use Rattle.std.proofs.Common.{◌≡◌, ◌∙◌}
use Rattle.std.specs.List.{flat_map}
use Rattle.mql_names.specs.Maps.{meaning}
use Rattle.mql_names.specs.Things.{item_named}
use Rattle.mql_names.proofs.Joined.{at_names}
use Rattle.mql_names.proofs.program.program_scope_told.Goals as goal

pub returns : goal.returns
returns c =
    let e : c.as_slice.result.now ≡ flat_map (item_named (meaning c.args.names.now)) c.args.items.now = c.as_slice.ensures ∙ c.in_ok-named.ensures in
    at_names (meaning c.args.names.now) _ (flat_map (item_named (meaning c.args.names.now)) c.args.items.now) c.scope_told.result e c.scope_told.ensures
