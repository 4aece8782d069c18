use Rattle.stack_follows.proofs.Whole.{follows}
use Rattle.stack_follows.proofs.law.code_follows.Goals as goal

pub returns : goal.returns
returns c = follows
