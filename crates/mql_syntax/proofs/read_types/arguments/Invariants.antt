use Rattle.std.specs.Prelude.{◌≡◌, drop, map}
use Rattle.mql_views.specs.Seen.{all}
use Rattle.mql_views.specs.Declarations.{type_argument}
use Rattle.mql_syntax.specs.Lists.{each}
use Rattle.mql_syntax.specs.Seen.{types_seen}
use Rattle.mql_syntax.proofs.Each.{ahead}
use Rattle.mql_syntax.proofs.read_types.arguments.Given as goal

abbrev pub invariant-loop-piece : goal.invariant-loop-piece
invariant-loop-piece l = each type_argument (map all l.piece-items) ≡ ahead (types_seen l.found) (each type_argument (map all (drop l.piece-index l.piece-items)))
