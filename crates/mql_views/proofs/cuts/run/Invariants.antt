use Rattle.std.proofs.Common.{◌≡◌, ◌+◌, drop}
use Rattle.mql_views.specs.Cuts.{run}
use Rattle.mql_views.specs.Seen.{seen}
use Rattle.mql_views.proofs.cuts.run.Given as goal

abbrev pub invariant-loop-part : goal.invariant-loop-part
invariant-loop-part l = (l.count ≡ l.part-index) × (l.count + run l.wanted (seen (drop l.part-index l.parts)) ≡ run l.wanted (seen l.parts))
