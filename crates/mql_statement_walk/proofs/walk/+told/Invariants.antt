use Rattle.std.proofs.Common.{◌≡◌, ◌++◌, take}
use Rattle.mql_scope.specs.Places.{context_at}
use Rattle.mql_statements.specs.Told.{in_force}
use Rattle.mql_statement_walk.specs.Lists.{told_list, behind_all, declared_in}
use Rattle.mql_statement_walk.proofs.walk.+told.Given as goal

abbrev pub invariant-each_told-loop-s : goal.invariant-each_told-loop-s
invariant-each_told-loop-s g l =
    let c = in_force (context_at g.P.ProgramFacts.program l.fn.here) l.fn.locals in
    record {
      context : in_force (context_at g.P.ProgramFacts.program l.at) l.known ≡ behind_all c l.all;
      told : l.all ≡ told_list c l.shared (take l.s-index l.parts);
      locals : l.known ≡ l.fn.locals ++ declared_in l.all;
    }
