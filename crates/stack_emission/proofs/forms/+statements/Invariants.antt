use Rattle.std.proofs.Common.{◌≡◌, drop}
use Rattle.stack_emission.specs.HasCode.{body_has_code}
use Rattle.stack_emission.proofs.forms.+statements.Given as goal

abbrev pub invariant-body_has_code-loop-s : goal.invariant-body_has_code-loop-s
invariant-body_has_code-loop-s l = body_has_code l.functions l.body ≡ body_has_code l.functions (drop l.s-index l.body)
