use Rattle.std.specs.Prelude.{◌≡◌, ◌++◌, drop}
use Rattle.mql_meaning.specs.Calls.{values_of}
use Rattle.native_arguments.specs.Arguments.{all_shown}
use Rattle.native_calls.proofs.lending.values_of.Given as goal

abbrev pub invariant-loop-argument : goal.invariant-loop-argument
invariant-loop-argument l =
    l.values ++ values_of (all_shown (drop l.argument-index l.arguments)) ≡ values_of (all_shown l.arguments)
