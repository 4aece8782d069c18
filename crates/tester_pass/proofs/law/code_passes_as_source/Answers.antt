use Rattle.tester_pass.proofs.Same.{same_pass}
use Rattle.tester_pass.proofs.law.code_passes_as_source.Goals as goal

pub returns : goal.returns
returns c = λ p code stands. same_pass p code stands (c.code_follows.ensures p code stands)
