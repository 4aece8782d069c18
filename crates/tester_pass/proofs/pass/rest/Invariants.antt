use Rattle.std.proofs.Common.{length}
use Rattle.tester_pass.specs.declared.result.PassResult.{PassResult}
use Rattle.tester_pass.specs.Laws.{StandsInTime}
use Rattle.tester_pass.specs.Pass.{Rest, of_code}
use Rattle.tester_pass.specs.Runs.{stage}
use Rattle.tester_pass.proofs.pass.rest.Given as goal

abbrev pub invariant-loop-quote : goal.invariant-loop-quote
invariant-loop-quote l = record {
  passes : (r : PassResult) → Rest (of_code l.code) l.left (stage l.run) r → Rest (of_code l.code) l.fn.left (stage l.fn.run) r;
  times : StandsInTime (stage l.fn.run) → StandsInTime (stage l.run);
}

abbrev pub decreases-loop-quote : goal.decreases-loop-quote
decreases-loop-quote l = length l.left
