use Rattle.tester_pass.proofs.Once.{one_outcome, world_is_function}
use Rattle.tester_pass.proofs.law.one_outcome.Goals as goal

pub returns-clause-outcome : goal.returns-clause-outcome
returns-clause-outcome c = one_outcome c.is_talk.ensures

pub returns-clause-world : goal.returns-clause-world
returns-clause-world c = world_is_function
