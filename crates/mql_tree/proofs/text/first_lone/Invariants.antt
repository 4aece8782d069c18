use Rattle.std.proofs.Common.{◌≡◌, ◌+◌, length}
use Rattle.mql_tree.specs.Text.{lone_from}
use Rattle.mql_tree.proofs.text.first_lone.Given as goal

-- what is found from here on is what is found
abbrev pub invariant-loop-rest : goal.invariant-loop-rest
invariant-loop-rest l = (lone_from l.place l.rest ≡ lone_from 0 l.fn.units) × (l.place + length l.rest ≡ length l.fn.units)

abbrev pub decreases-loop-rest : goal.decreases-loop-rest
decreases-loop-rest l = length l.rest
