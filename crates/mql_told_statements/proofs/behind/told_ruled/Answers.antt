use Rattle.mql_told_statements.proofs.behind.told_ruled.Goals as goal

pub returns : goal.returns
returns g c = rw c.rule_of-rule.ensures at c.told_as.ensures
