use Rattle.std.specs.Prelude.{◌≡◌, drop}
use Rattle.mql_views.specs.Seen.{seen}
use Rattle.mql_syntax.specs.Seen.{at_site}
use Rattle.mql_syntax.proofs.Each.{ahead}
use Rattle.mql_syntax_read.specs.Classes.{gathered}
use Rattle.mql_syntax_read.specs.Items.{item}
use Rattle.mql_syntax_read.proofs.read_items.items.Given as goal

abbrev pub invariant-loop-part : goal.invariant-loop-part
invariant-loop-part l = gathered (at_site item l.site) (seen l.parts) ≡ ahead l.found (gathered (at_site item l.site) (seen (drop l.part-index l.parts)))
