use Rattle.std.specs.Prelude.{◌≡◌, ◌++◌, drop}
use Rattle.mql_views.specs.Seen.{seen}
use Rattle.mql_syntax_read.specs.Seen.{pieces_seen}
use Rattle.mql_syntax_read.specs.Statements.{whole}
use Rattle.mql_syntax_read.proofs.read_statements.whole.Given as goal

abbrev pub invariant-loop-part : goal.invariant-loop-part
invariant-loop-part l = whole (seen l.parts) ≡ pieces_seen l.found ++ whole (seen (drop l.part-index l.parts))
