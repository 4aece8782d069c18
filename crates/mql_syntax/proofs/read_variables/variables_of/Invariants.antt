use Rattle.std.specs.Prelude.{◌≡◌, map, drop}
use Rattle.mql_views.specs.Seen.{all, part_seen}
use Rattle.mql_syntax.specs.Lists.{each}
use Rattle.mql_syntax.specs.Seen.{at_site}
use Rattle.mql_syntax.specs.Variables.{variable}
use Rattle.mql_syntax.proofs.Each.{ahead}
use Rattle.mql_syntax.proofs.read_variables.variables_of.Given as goal

abbrev pub invariant-loop-piece : goal.invariant-loop-piece
invariant-loop-piece l = each (at_site variable l.site l.words (part_seen l.of)) (map all l.pieces) ≡ ahead l.found (each (at_site variable l.site l.words (part_seen l.of)) (map all (drop l.piece-index l.pieces)))
