use Rattle.mql_tree.proofs.OneAnswer.{one}
use Rattle.mql_tree.proofs.lexer.one_answer.Goals as goal

pub returns : goal.returns
returns c = λ file us a b h g. one file h g
