use Rattle.std.specs.Prelude.{◌≡◌, ◌+◌, ◌*◌, drop}
use Rattle.mql_syntax.specs.Lists.{each}
use Rattle.mql_syntax.specs.Seen.{at_site}
use Rattle.mql_syntax_read.specs.Seen.{pieces_seen}
use Rattle.mql_syntax_read.specs.Statements.{read_piece}
use Rattle.mql_syntax.proofs.Each.{ahead}
use Rattle.mql_syntax_read.proofs.read_statements.+statements.Given as goal

abbrev pub invariant-statements_in-loop-piece : goal.invariant-statements_in-loop-piece
invariant-statements_in-loop-piece l = each (at_site read_piece l.site) (pieces_seen l.pieces) ≡ ahead l.found (each (at_site read_piece l.site) (pieces_seen (drop l.piece-index l.pieces)))

abbrev pub decreases-statement : goal.decreases-statement
decreases-statement l = 3 * l.depth

abbrev pub decreases-statement_piece : goal.decreases-statement_piece
decreases-statement_piece l = 3 * l.site.depth + 1

abbrev pub decreases-statements_in : goal.decreases-statements_in
decreases-statements_in l = 3 * l.site.depth + 2
