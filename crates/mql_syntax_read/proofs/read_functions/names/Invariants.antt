use Rattle.std.specs.Prelude.{◌≡◌, drop}
use Rattle.mql_views.specs.Seen.{seen}
use Rattle.mql_syntax.specs.Leaves.{name}
use Rattle.mql_syntax.specs.Lists.{each}
use Rattle.mql_syntax.proofs.Each.{ahead}
use Rattle.mql_syntax_read.proofs.read_functions.names.Given as goal

abbrev pub invariant-loop-part : goal.invariant-loop-part
invariant-loop-part l = each (name l.tokens) (seen l.parts) ≡ ahead l.found (each (name l.tokens) (seen (drop l.part-index l.parts)))
