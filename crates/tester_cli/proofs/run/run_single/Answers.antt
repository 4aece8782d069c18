use Rattle.tester_cli.specs.Commands.{plan_of, words_of}
use Rattle.tester_cli.proofs.RunLemmas.{plan_one}
use Rattle.tester_answer.proofs.OneEnd.{refused_completes}
use Rattle.tester_cli.proofs.run.run_single.Goals as goal

pub returns-in-Err-clause-complete : goal.returns-in-Err-clause-complete
returns-in-Err-clause-complete g c =
    let plan = plan_of (words_of c.args.words.now) in
    refused_completes plan (plan_one c.one_answer.ensures.same c.one_answer-2.ensures c.one_outcome.ensures.outcome (words_of c.args.words.now))
    (g.F.Files.seen c.args.files.now) (g.F.Files.seen c.prepare.new.files) _ _ c.in-Err.status c.in-Err.ensures.refused
