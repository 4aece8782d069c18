use Rattle.std.proofs.Common.{ap, sym, ◌∙◌}
use Rattle.std.specs.Option.{is_some}
use Rattle.mql_macros.specs.Looks.{last_named}
use Rattle.mql_preproc.proofs.Defined.{defined_is_found}
use Rattle.mql_preproc.proofs.setting.is_defined.Goals as goal

pub returns : goal.returns
returns c =
    c.is_some.ensures
    ∙ ap is_some (c.last_named.ensures ∙ ap (λ q. last_named q c.args.macros.now) c.as_slice.ensures)
    ∙ sym (defined_is_found c.args.name.now c.args.macros.now)
