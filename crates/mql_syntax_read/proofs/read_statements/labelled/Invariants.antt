use Rattle.std.specs.Prelude.{◌≡◌, ◌++◌, false, drop}
use Rattle.mql_views.specs.Seen.{seen}
use Rattle.mql_syntax_read.specs.Seen.{pieces_seen}
use Rattle.mql_syntax_read.specs.Statements.{labelled}
use Rattle.mql_syntax_read.proofs.read_statements.labelled.Given as goal

abbrev pub invariant-loop-part : goal.invariant-loop-part
invariant-loop-part l = labelled false (seen l.parts) ≡ pieces_seen l.found ++ labelled l.behind (seen (drop l.part-index l.parts))
