use Rattle.std.specs.Prelude.{◌≡◌, ◌++◌, drop, map}
use Rattle.mql_meaning.specs.Cells.{weight}
use Rattle.native_arguments.specs.Arguments.{all_shown}
use Rattle.native_calls.specs.Lent.{cells_in}
use Rattle.native_calls.proofs.lending.weights.Given as goal

abbrev pub invariant-loop-argument : goal.invariant-loop-argument
invariant-loop-argument l =
    l.counts ++ map weight (cells_in (all_shown (drop l.argument-index l.arguments)))
    ≡ map weight (cells_in (all_shown l.arguments))
