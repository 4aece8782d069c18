use Rattle.std.proofs.Common.{◌≡◌, subst}
use Rattle.std.specs.Prelude.{IfOk}
use Rattle.mql_scope.specs.Contexts.{Program}
use Rattle.mql_names.specs.Faults.{told}
use Rattle.mql_check.specs.Programs.{unmet_in}
use Rattle.mql_typing.proofs.source.unmet_by.Goals as goal

pub returns : goal.returns
returns g c =
    subst (λ (p : Program). IfOk c.bodies_told.result (λ b. b ≡ told (unmet_in p c.args.items.now))) c.in_ok-program.ensures c.bodies_told.ensures
