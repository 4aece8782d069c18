use Rattle.std.proofs.Common.{◌≡◌, ◌+◌, length, None}
use Rattle.mql_spelling.specs.Longest.{last_from}
use Rattle.mql_spelling.specs.Onward.{after}
use Rattle.mql_spelling.proofs.scan.walk.Given as goal

abbrev pub invariant-loop-unit : goal.invariant-loop-unit
invariant-loop-unit l = (last_from l.count l.best (after l.state) l.rest ≡ last_from l.fn.place None (after l.fn.start) l.fn.text) × (l.count + length l.rest ≡ l.fn.place + length l.fn.text)

abbrev pub decreases-loop-unit : goal.decreases-loop-unit
decreases-loop-unit l = length l.rest
