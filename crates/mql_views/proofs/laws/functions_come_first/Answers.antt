use Rattle.mql_views.proofs.ItemForms.{functions_first}
use Rattle.mql_views.proofs.laws.functions_come_first.Goals as goal

pub returns : goal.returns
returns c = functions_first
