use Rattle.std.proofs.Common.{sym, ap, ◌∙◌, []}
use Rattle.mql_names.specs.Maps.{meaning}
use Rattle.mql_names.specs.Things.{member_things}
use Rattle.mql_names.specs.Rules.{told_of}
use Rattle.mql_names.proofs.items.member_told.Goals as goal

pub returns-in-Variable : goal.returns-in-Variable
returns-in-Variable c = c.whole_variable_told.ensures [] ∙ ap (λ m. told_of (meaning c.args.names.now) (member_things m)) (sym c.in-Variable.is)
