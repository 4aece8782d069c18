use Rattle.std.specs.Prelude.{◌≡◌, ◌≤◌, ◌-◌, ◌++◌, map, take, drop}
use Rattle.mql_views.specs.Seen.{seen, all}
use Rattle.mql_syntax.specs.Lists.{pieces, pieces_from}
use Rattle.mql_syntax.proofs.lists.pieces.Given as goal

abbrev pub invariant-loop-place : goal.invariant-loop-place
invariant-loop-place l = (l.start ≤ l.place) × (pieces (seen l.parts) ≡ map all l.found ++ pieces_from l.inside (seen (take (l.place - l.start) (drop l.start l.parts))) (seen (drop l.place l.parts)))
