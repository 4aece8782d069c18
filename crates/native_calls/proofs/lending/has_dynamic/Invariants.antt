use Rattle.std.specs.Prelude.{◌≡◌, drop}
use Rattle.mql_meaning.specs.Calls.{has_dynamic}
use Rattle.native_arguments.specs.Arguments.{all_shown}
use Rattle.native_calls.specs.Lent.{cells_in}
use Rattle.native_calls.proofs.lending.has_dynamic.Given as goal

abbrev pub invariant-loop-argument : goal.invariant-loop-argument
invariant-loop-argument l =
    has_dynamic (cells_in (all_shown l.arguments))
    ≡ has_dynamic (cells_in (all_shown (drop l.argument-index l.arguments)))
