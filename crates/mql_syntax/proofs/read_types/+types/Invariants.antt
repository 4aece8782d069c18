use Rattle.std.specs.Prelude.{◌≡◌, ◌+◌, ◌*◌, drop}
use Rattle.mql_syntax.specs.Lists.{each}
use Rattle.mql_syntax.specs.Seen.{types_seen}
use Rattle.mql_syntax.specs.Types.{type_use}
use Rattle.mql_syntax.proofs.Each.{ahead}
use Rattle.mql_syntax.proofs.read_types.+types.Given as goal

abbrev pub invariant-type_uses-loop-typed : goal.invariant-type_uses-loop-typed
invariant-type_uses-loop-typed l = each (type_use l.tokens l.classes l.depth l.inside) (types_seen l.types) ≡ ahead l.found (each (type_use l.tokens l.classes l.depth l.inside) (types_seen (drop l.typed-index l.types)))

abbrev pub decreases-type_use : goal.decreases-type_use
decreases-type_use l = 2 * l.depth

abbrev pub decreases-type_uses : goal.decreases-type_uses
decreases-type_uses l = 2 * l.depth + 1
