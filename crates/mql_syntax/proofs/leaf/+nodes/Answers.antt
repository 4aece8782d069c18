use Rattle.std.proofs.Common.{sym, ap, ◌∙◌}
use Rattle.mql_syntax.specs.Leaves.{nodes_of}
use Rattle.mql_syntax.proofs.Rows.{nodes_node}
use Rattle.mql_syntax.proofs.leaf.+nodes.Goals as goal

pub nodes-returns-in-Node : goal.nodes-returns-in-Node
nodes-returns-in-Node t c =
    rw c.in-Node.is (c.nodes_of.ensures ∙ ap (nodes_of 1) c.as_slice.ensures ∙ sym (nodes_node c.in-Node.form c.in-Node.parts))
