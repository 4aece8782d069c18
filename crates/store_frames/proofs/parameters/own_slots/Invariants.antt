use Rattle.std.specs.Prelude.{◌≡◌, [], length}
use Rattle.mql_meaning.specs.Frames.{slots}
use Rattle.store_frames.specs.Slots.{ahead}
use Rattle.store_frames.proofs.parameters.own_slots.Given as goal

abbrev pub invariant-loop-cell : goal.invariant-loop-cell
invariant-loop-cell l = ahead l.fn.made (slots l.fn.rest [] []) ≡ ahead l.made (slots l.rest [] [])

abbrev pub decreases-loop-cell : goal.decreases-loop-cell
decreases-loop-cell l = length l.rest
