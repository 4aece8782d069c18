use Rattle.mql_spelling.proofs.Digits.{too_large}
use Rattle.mql_spelling.proofs.value.number.Goals as goal

pub returns-in-None : goal.returns-in-None
returns-in-None c = too_large _ _ _ _ _ _ _ c.requires c.in-Some.ensures.cases.0 c.loop-digit.invariant c.in-None.ensures
