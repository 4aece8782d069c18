use Rattle.std.proofs.Common.{◌≡◌, ◌+◌, drop}
use Rattle.mql_views.specs.Cuts.{until}
use Rattle.mql_views.specs.Seen.{seen}
use Rattle.mql_views.proofs.cuts.until.Given as goal

abbrev pub invariant-loop-part : goal.invariant-loop-part
invariant-loop-part l = (l.count ≡ l.part-index) × (l.count + until l.wanted l.forms (seen (drop l.part-index l.parts)) ≡ until l.wanted l.forms (seen l.parts))
