use Rattle.std.proofs.Common.{◌≡◌, ◌++◌, length}
use Rattle.mql_tree.specs.Text.{le_units}
use Rattle.mql_tree.proofs.text.le_units.Given as goal

-- the units so far and those of the rest are all
abbrev pub invariant-loop-rest : goal.invariant-loop-rest
invariant-loop-rest l = l.units ++ le_units l.rest ≡ le_units l.fn.bytes

abbrev pub decreases-loop-rest : goal.decreases-loop-rest
decreases-loop-rest l = length l.rest
