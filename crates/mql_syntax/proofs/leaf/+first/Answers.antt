use Rattle.std.proofs.Common.{sym, ap, ◌∙◌}
use Rattle.mql_syntax.specs.Leaves.{first_of}
use Rattle.mql_syntax.proofs.Rows.{first_node}
use Rattle.mql_syntax.proofs.leaf.+first.Goals as goal

pub first-returns-in-Node : goal.first-returns-in-Node
first-returns-in-Node t c =
    rw c.in-Node.is (c.first_of.ensures ∙ ap first_of c.as_slice.ensures ∙ sym (first_node c.in-Node.form c.in-Node.parts))
