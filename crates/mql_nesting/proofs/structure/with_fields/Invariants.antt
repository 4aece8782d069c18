use Rattle.std.proofs.Common.{◌≡◌, ◌++◌, take, drop, length}
use Rattle.std.specs.List.{flat_map}
use Rattle.mql_nesting.specs.Nesting as spec
use Rattle.mql_nesting.proofs.structure.with_fields.Given as goal

abbrev pub invariant-loop-m : goal.invariant-loop-m
invariant-loop-m l = l.found ≡ l.fn.found ++ flat_map spec.field_types (take l.m-index l.members)
