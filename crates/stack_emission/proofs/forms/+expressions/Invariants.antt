use Rattle.std.proofs.Common.{◌≡◌, drop}
use Rattle.stack_emission.specs.HasCode.{have_code}
use Rattle.stack_emission.proofs.forms.+expressions.Given as goal

abbrev pub invariant-have_code-loop-e : goal.invariant-have_code-loop-e
invariant-have_code-loop-e l = have_code l.functions l.expressions ≡ have_code l.functions (drop l.e-index l.expressions)
