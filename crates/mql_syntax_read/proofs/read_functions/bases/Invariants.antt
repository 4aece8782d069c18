use Rattle.std.specs.Prelude.{◌≡◌, map, drop}
use Rattle.mql_views.specs.Seen.{all}
use Rattle.mql_syntax.specs.Lists.{each}
use Rattle.mql_syntax.specs.Seen.{at_site}
use Rattle.mql_syntax_read.specs.Functions.{base}
use Rattle.mql_syntax.proofs.Each.{ahead}
use Rattle.mql_syntax_read.proofs.read_functions.bases.Given as goal

abbrev pub invariant-loop-piece : goal.invariant-loop-piece
invariant-loop-piece l = each (at_site base l.site) (map all l.pieces) ≡ ahead l.found (each (at_site base l.site) (map all (drop l.piece-index l.pieces)))
