use Rattle.mql_views.proofs.ItemForms.{item_seen, template_seen, member_seen}
use Rattle.mql_views.proofs.DeclarationForms.{class_seen, enumeration_seen}
use Rattle.mql_views.proofs.laws.declarations_are_seen.Goals as goal

pub returns : goal.returns
returns c = record {
  items = item_seen;
  templates = template_seen;
  members = member_seen;
  classes = class_seen;
  enumerations = enumeration_seen;
}
