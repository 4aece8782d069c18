use Rattle.mql_views.proofs.ValueForms.{block_seen}
use Rattle.mql_views.proofs.StatementForms.{simple_seen, if_seen, while_seen, do_seen, for_seen, switch_seen, return_seen, delete_seen}
use Rattle.mql_views.proofs.laws.statements_are_seen.Goals as goal

pub returns : goal.returns
returns c = record {
  blocks = block_seen;
  simples = simple_seen;
  choices = if_seen;
  whiles = while_seen;
  dos = do_seen;
  fors = for_seen;
  switches = switch_seen;
  returned = return_seen;
  deletes = delete_seen;
}
