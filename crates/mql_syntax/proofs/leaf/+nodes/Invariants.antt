use Rattle.std.specs.Prelude.{◌≡◌, drop}
use Rattle.mql_syntax.specs.Leaves.{nodes_of}
use Rattle.mql_syntax.proofs.leaf.+nodes.Given as goal

abbrev pub invariant-nodes_of-loop-tree : goal.invariant-nodes_of-loop-tree
invariant-nodes_of-loop-tree l = nodes_of l.count (drop l.tree-index l.trees) ≡ nodes_of 1 l.trees
