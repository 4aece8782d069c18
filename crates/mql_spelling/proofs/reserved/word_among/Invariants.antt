use Rattle.std.proofs.Common.{◌≡◌, length}
use Rattle.mql_spelling.specs.ReservedWords.{word_spelling}
use Rattle.mql_spelling.specs.Spelled.{spelled_among}
use Rattle.mql_spelling.proofs.reserved.word_among.Given as goal

abbrev pub invariant-loop-rest : goal.invariant-loop-rest
invariant-loop-rest l = spelled_among word_spelling l.rest l.name ≡ spelled_among word_spelling l.fn.words l.fn.name

abbrev pub decreases-loop-rest : goal.decreases-loop-rest
decreases-loop-rest l = length l.rest
