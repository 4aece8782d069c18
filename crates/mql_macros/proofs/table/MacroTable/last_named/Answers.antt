use Rattle.std.proofs.Common.{ap, ◌∙◌}
use Rattle.mql_macros.specs.Looks.{last_named}
use Rattle.mql_macros.proofs.Placing.{found_placed}
use Rattle.mql_macros.proofs.table.MacroTable.last_named.Goals as goal

pub returns : goal.returns
returns c = c.copied.ensures ∙ found_placed _ _ c.args.name.now _ c.self.invariant c.get.ensures.value ∙ ap (last_named c.args.name.now) c.self.view_is
