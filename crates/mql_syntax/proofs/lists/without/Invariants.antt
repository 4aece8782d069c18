use Rattle.std.specs.Prelude.{◌≡◌, ◌++◌, drop}
use Rattle.mql_views.specs.Seen.{seen}
use Rattle.mql_syntax.specs.Lists.{without}
use Rattle.mql_syntax.proofs.lists.without.Given as goal

abbrev pub invariant-loop-part : goal.invariant-loop-part
invariant-loop-part l = seen l.fn.first ++ without l.dropped (seen l.parts) ≡ seen l.found ++ without l.dropped (seen (drop l.part-index l.parts))
