use Rattle.std.proofs.Common.{rules}
use Rattle.mql_views.specs.Parts.{class_at}
use Rattle.mql_syntax.proofs.leaf.class_in.Goals as goal

pub returns-in-Some : goal.returns-in-Some
unfolding class_at
returns-in-Some c = search rules

pub returns-in-None : goal.returns-in-None
unfolding class_at
returns-in-None c = search rules
