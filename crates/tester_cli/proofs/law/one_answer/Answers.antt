use Rattle.tester_cli.proofs.RunLemmas.{plan_one}
use Rattle.tester_cli.proofs.law.one_answer.Goals as goal

pub returns : goal.returns
returns c = plan_one c.one_answer.ensures.same c.one_answer-2.ensures c.one_outcome.ensures.outcome
