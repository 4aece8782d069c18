use Rattle.std.proofs.Common.{length}
use Rattle.mql_tree.proofs.Reading.{Reads}
use Rattle.mql_tree.proofs.lexer.lex.Given as goal

abbrev pub invariant-loop-rest : goal.invariant-loop-rest
invariant-loop-rest l = Reads l.file l.text l.tokens (record { mode = l.mode; line = l.line; place = l.place }) l.rest

abbrev pub decreases-loop-rest : goal.decreases-loop-rest
decreases-loop-rest l = length l.rest
