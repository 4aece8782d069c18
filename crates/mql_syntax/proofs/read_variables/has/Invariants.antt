use Rattle.std.specs.Prelude.{◌≡◌, drop}
use Rattle.mql_views.specs.Seen.{seen}
use Rattle.mql_syntax.specs.Variables.{has}
use Rattle.mql_syntax.proofs.read_variables.has.Given as goal

abbrev pub invariant-loop-part : goal.invariant-loop-part
invariant-loop-part l = has l.class (seen (drop l.part-index l.parts)) ≡ has l.class (seen l.parts)
