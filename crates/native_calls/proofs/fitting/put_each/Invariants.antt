use Rattle.std.specs.Prelude.{◌≡◌, drop}
use Rattle.mql_meaning.specs.Calls.{put_each}
use Rattle.native_arguments.specs.Arguments.{all_shown}
use Rattle.native_calls.specs.Lent.{cells_in}
use Rattle.store_cells.specs.Puts.{ahead}
use Rattle.native_calls.proofs.fitting.put_each.Given as goal

abbrev pub invariant-loop-argument : goal.invariant-loop-argument
invariant-loop-argument l =
    put_each (cells_in (all_shown l.arguments)) l.fn.values
    ≡ ahead l.new (put_each (cells_in (all_shown (drop l.argument-index l.arguments))) l.rest)
