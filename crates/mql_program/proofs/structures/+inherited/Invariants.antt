use Rattle.mql_program.proofs.structures.+inherited.Given as goal

abbrev pub decreases-inherited : goal.decreases-inherited
decreases-inherited g l = l.most
