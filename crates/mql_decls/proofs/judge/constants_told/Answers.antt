use Rattle.mql_names.specs.Maps.{meaning}
use Rattle.mql_decls.proofs.Joined.{of_constants}
use Rattle.std.proofs.Common.{◌∙◌, ap}
use Rattle.std.specs.List.{flat_map}
use Rattle.mql_names.specs.Faults.{told}
use Rattle.mql_sizes.specs.Members.{valueless}
use Rattle.mql_decls.proofs.judge.constants_told.Goals as goal

pub returns : goal.returns
returns c =
    let r = c.in_ok-enumerations.ensures in
    of_constants (meaning c.args.names.now) c.args.syntax.now c.as_slice.result.now c.in_ok-enumerations.enumerations c.in_ok-enumerations.values
    c.sooner.result c.enumerations_told-of.result c.in_ok-sizes.sizes c.as_slice.ensures r.0 r.1
    (c.enumerations_told-of.ensures ∙ ap (λ xs. told (flat_map valueless xs)) c.as_slice-2.ensures) c.in_ok-sizes.ensures c.sooner.ensures
