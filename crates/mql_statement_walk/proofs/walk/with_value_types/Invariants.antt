use Rattle.std.proofs.Common.{◌≡◌, ◌++◌, take}
use Rattle.std.specs.List.{flat_map}
use Rattle.mql_expressions.specs.Values.{kept_by}
use Rattle.mql_statement_walk.proofs.walk.with_value_types.Given as goal

abbrev pub invariant-loop-info : goal.invariant-loop-info
invariant-loop-info l = l.all ≡ l.fn.types ++ flat_map kept_by (take l.info-index l.infos)
