use Rattle.std.proofs.Common.{◌≡◌, length}
use Rattle.mql_spelling.specs.declared.escape.Escape.TheVariants as escapes
use Rattle.mql_spelling.specs.Value.{text_of, put_behind, IsInRange}
use Rattle.mql_spelling.proofs.escape.spelled_text.Given as goal

abbrev pub invariant-loop-unit : goal.invariant-loop-unit
invariant-loop-unit l = (put_behind l.text (text_of l.at l.rest) ≡ text_of escapes.Plain l.fn.units) × IsInRange l.at

abbrev pub decreases-loop-unit : goal.decreases-loop-unit
decreases-loop-unit l = length l.rest
