use Rattle.std.proofs.Common.{refl}
use Rattle.mql_spelling.specs.Lexeme.{lexeme}
use Rattle.mql_spelling.specs.Onward.{after}
use Rattle.mql_spelling.proofs.LongestPiece.{longest_behind, longest_in_none, longest_goes_on}
use Rattle.mql_spelling.proofs.scan.longest.Goals as goal

pub returns-in-Some-clause-longest : goal.returns-in-Some-clause-longest
unfolding lexeme
returns-in-Some-clause-longest c = longest_behind (lexeme c.args.mode) (after c.first.result) _ _ _ _ c.in-Some.ensures.cases.0 refl c.first.ensures c.walk.ensures

pub returns-in-Some-clause-progress : goal.returns-in-Some-clause-progress
unfolding lexeme
returns-in-Some-clause-progress c = longest_goes_on (lexeme c.args.mode) _ _ refl (longest_behind (lexeme c.args.mode) (after c.first.result) _ _ _ _ c.in-Some.ensures.cases.0 refl c.first.ensures c.walk.ensures)

pub returns-in-None-clause-longest : goal.returns-in-None-clause-longest
unfolding lexeme
returns-in-None-clause-longest c = longest_in_none (lexeme c.args.mode) _ c.in-None.ensures.cases refl
