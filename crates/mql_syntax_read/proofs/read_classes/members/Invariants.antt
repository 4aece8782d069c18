use Rattle.std.specs.Prelude.{◌≡◌, drop}
use Rattle.mql_syntax.specs.Seen.{at_site}
use Rattle.mql_syntax.proofs.Each.{ahead}
use Rattle.mql_syntax_read.specs.Seen.{accessed_seen}
use Rattle.mql_syntax_read.specs.Classes.{gathered, member}
use Rattle.mql_syntax_read.proofs.read_classes.members.Given as goal

abbrev pub invariant-loop-part : goal.invariant-loop-part
invariant-loop-part l = gathered (at_site member l.site) (accessed_seen l.parts) ≡ ahead l.found (gathered (at_site member l.site) (accessed_seen (drop l.part-index l.parts)))
