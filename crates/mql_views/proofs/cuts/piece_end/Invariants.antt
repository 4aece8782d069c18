use Rattle.std.proofs.Common.{◌≡◌, ◌+◌, drop, false}
use Rattle.mql_views.specs.Cuts.{piece_end}
use Rattle.mql_views.specs.Seen.{seen}
use Rattle.mql_views.proofs.cuts.piece_end.Given as goal

abbrev pub invariant-loop-part : goal.invariant-loop-part
invariant-loop-part l = (l.count ≡ l.part-index) × (l.count + piece_end l.inside (seen (drop l.part-index l.parts)) ≡ piece_end false (seen l.parts))
