use Rattle.std.proofs.Common.{◌≡◌, [], take}
use Rattle.mql_names.specs.Faults.{told}
use Rattle.mql_names.specs.Scopes.{repeated}
use Rattle.mql_names.specs.Maps.{Holds}
use Rattle.mql_names.proofs.scope.repeated.Given as goal

abbrev pub invariant-loop-named : goal.invariant-loop-named
invariant-loop-named l = record {
  first : l.first ≡ told (repeated [] (take l.named-index l.names));
  holds : Holds l.taken (take l.named-index l.names);
}
