-- A row of trees, and the list that it holds.
use Rattle.std.proofs.Common.{◌≡◌, List, [], ◌∷◌, refl, ap, ◌∙◌}
use mathlib.Core.Former.{Count}
use Rattle.mql_forms.specs.declared.form.Form.{Form}
use Rattle.mql_tree.specs.declared.token.Tree.{Tree, Node', Row_of-Tree, end_of-Tree, more_of-Tree, items-the_row-Tree, items_hidden-the_row-Tree-0}
use Rattle.mql_tree.specs.declared.token.Tree.TheVariants as v
use Rattle.mql_views.specs.Parts.{counted, nodes, nodes_among}
use Rattle.mql_syntax.specs.Leaves.{first, first_among, first_of, nodes_of}

abbrev pub row_of : Tree → (n : Count) × Row_of-Tree n
row_of (Node' _ _ row) = (_, row)
row_of _ = (_, end_of-Tree)

pub list_of : {m : _} → Row_of-Tree m → List Tree
list_of end_of-Tree = []
list_of (more_of-Tree t ts) = t ∷ list_of ts

list_items : (n : _) (row : Row_of-Tree n) → list_of row ≡ items-the_row-Tree n row
unfolding list_of
list_items n end_of-Tree = refl
list_items n (more_of-Tree t ts) = ap (λ us. t ∷ us) (list_items _ ts)

-- the parts of a node
parts_of : (form : Form) (ts : List Tree) → list_of (row_of (v.Node form ts)).1 ≡ ts
parts_of form ts = let row = row_of (v.Node form ts) in list_items row.0 row.1 ∙ items_hidden-the_row-Tree-0 ts

first_row : (n : _) (row : Row_of-Tree n) → first_among row ≡ first_of (list_of row)
unfolding list_of
first_row n end_of-Tree = refl
first_row n (more_of-Tree t ts) = refl

pub first_node : (form : Form) (ts : List Tree) → first (v.Node form ts) ≡ first_of ts
first_node form ts =
    let row = row_of (v.Node form ts) in first_row row.0 row.1 ∙ ap first_of (parts_of form ts)

nodes_row : (n k : _) (row : Row_of-Tree n) → nodes_among k row ≡ nodes_of k (list_of row)
unfolding list_of
nodes_row n k end_of-Tree = refl
nodes_row n k (more_of-Tree t ts) = nodes_row _ (counted k (nodes t)) ts

pub nodes_node : (form : Form) (ts : List Tree) → nodes (v.Node form ts) ≡ nodes_of 1 ts
nodes_node form ts =
    let row = row_of (v.Node form ts) in nodes_row row.0 1 row.1 ∙ ap (nodes_of 1) (parts_of form ts)
