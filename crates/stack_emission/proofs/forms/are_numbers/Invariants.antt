use Rattle.std.proofs.Common.{◌≡◌, drop}
use Rattle.stack_emission.specs.HasCode.{are_numbers}
use Rattle.stack_emission.proofs.forms.are_numbers.Given as goal

abbrev pub invariant-loop-value : goal.invariant-loop-value
invariant-loop-value l = are_numbers l.values ≡ are_numbers (drop l.value-index l.values)
