use Rattle.std.proofs.Common.{◌≡◌, ◌++◌, length}
use Rattle.std.specs.List.{flat_map}
use Rattle.mql_check.specs.Items.{member_used}
use Rattle.mql_check.proofs.items.members_used.Given as goal

abbrev pub invariant-loop-rest : goal.invariant-loop-rest
invariant-loop-rest g l =
    let p = g.P.ProgramFacts.program l.fn.program in
    l.all ++ flat_map (member_used p) l.rest ≡ flat_map (member_used p) l.fn.members

abbrev pub decreases-loop-rest : goal.decreases-loop-rest
decreases-loop-rest g l = length l.rest
