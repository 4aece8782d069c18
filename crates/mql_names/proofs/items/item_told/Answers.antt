use Rattle.std.proofs.Common.{sym, ap, ◌∙◌, []}
use Rattle.mql_names.specs.Maps.{meaning}
use Rattle.mql_names.specs.Things.{item_things}
use Rattle.mql_names.specs.Rules.{told_of}
use Rattle.mql_names.proofs.items.item_told.Goals as goal

pub returns-in-Variable : goal.returns-in-Variable
returns-in-Variable c = c.whole_variable_told.ensures [] ∙ ap (λ m. told_of (meaning c.args.names.now) (item_things (meaning c.args.names.now) m)) (sym c.in-Variable.is)
