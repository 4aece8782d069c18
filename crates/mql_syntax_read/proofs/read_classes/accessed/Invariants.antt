use Rattle.std.specs.Prelude.{◌≡◌, drop}
use Rattle.mql_views.specs.Seen.{seen}
use Rattle.mql_syntax.proofs.Each.{ahead}
use Rattle.mql_syntax_read.specs.Seen.{accessed_seen}
use Rattle.mql_syntax_read.specs.Classes.{accessed}
use Rattle.mql_syntax_read.proofs.read_classes.accessed.Given as goal

abbrev pub invariant-loop-part : goal.invariant-loop-part
invariant-loop-part l = accessed l.tokens l.fn.first (seen l.parts) ≡ ahead (accessed_seen l.found) (accessed l.tokens l.now (seen (drop l.part-index l.parts)))
