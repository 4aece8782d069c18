use Rattle.std.specs.Prelude.{◌≡◌, drop}
use Rattle.native_arguments.specs.Arguments.{all_shown, all_values}
use Rattle.native_functions.proofs.Formatted.{before}
use Rattle.native_functions.proofs.format_parts.values.Given as goal

abbrev pub invariant-loop-argument : goal.invariant-loop-argument
invariant-loop-argument l =
    before l.all (all_values (all_shown (drop l.argument-index l.arguments))) ≡ all_values (all_shown l.arguments)
