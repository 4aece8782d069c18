use Rattle.std.proofs.Common.{◌≡◌, drop}
use Rattle.stack_emission.specs.HasCode.{bodies_have_code}
use Rattle.stack_emission.proofs.forms.bodies_have_code.Given as goal

abbrev pub invariant-loop-f : goal.invariant-loop-f
invariant-loop-f l = bodies_have_code l.functions l.some ≡ bodies_have_code l.functions (drop l.f-index l.some)
