use Rattle.std.specs.Prelude.{◌≡◌, ◌++◌, drop}
use Rattle.mql_views.specs.Parts.{parts_of, parts_from}
use Rattle.mql_views.specs.Seen.{seen}
use Rattle.mql_syntax.proofs.leaf.parts_of.Given as goal

abbrev pub invariant-loop-tree : goal.invariant-loop-tree
invariant-loop-tree l = parts_of l.classes l.at l.trees ≡ seen l.found ++ parts_from l.classes l.at l.next (drop l.tree-index l.trees)
