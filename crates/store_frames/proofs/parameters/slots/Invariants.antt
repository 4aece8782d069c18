use Rattle.std.specs.Prelude.{◌≡◌, drop, map}
use Rattle.mql_meaning.specs.Frames.{slots}
use Rattle.store_frames.specs.Operands.{shown}
use Rattle.store_frames.specs.Slots.{ahead}
use Rattle.store_frames.proofs.parameters.slots.Given as goal

abbrev pub invariant-loop-by_reference : goal.invariant-loop-by_reference
invariant-loop-by_reference l = slots l.fn.cells l.lent (map shown l.fn.operands)
    ≡ ahead l.made (slots l.cells (drop l.by_reference-index l.lent) (map shown l.rest))
