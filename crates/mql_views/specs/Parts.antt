-- The parts of a node, each with what it is and with a node's number (own).
use Rattle.std.specs.Prelude.{ℕ, ◌+◌, ◌-◌, ◌^◌, min, List, [], ◌∷◌, get_or}
use Rattle.mql_forms.specs.Numbers.{form_number}
use Rattle.mql_grammar.specs.Forms.{Head, of_class, of_form}
use Rattle.mql_grammar.specs.Numbers.{class_number}
use Rattle.mql_grammar.specs.declared.token_class.Class.{Class}
use Rattle.mql_grammar.specs.declared.token_class.Class.TheVariants.{EndMark}
use Rattle.mql_tree.specs.declared.token.Tree.{Tree, Leaf, Node', Row_of-Tree, end_of-Tree, more_of-Tree}

-- a part of a node: what it is to that node, and its tree. A node's number is its own, from 0 on in the order
-- in which nodes begin, a node before its parts; a token's is that of the node that it stands in.
pub record Part : Type 0 where
  pub at : ℕ
  pub head : Head
  pub tree : Tree

-- A number of nodes and some more. It stops at the largest number of 32 bits, past those of all trees within
-- the limits of a file.
abbrev pub counted : ℕ → ℕ → ℕ
counted n more = min (n + more) (2 ^ 32 - 1)

-- the number of nodes of a tree: a token is none
abbrev mutual
  pub nodes : Tree → ℕ
  nodes (Leaf k) = 0
  nodes (Node' _ row parts) = nodes_among 1 parts

  -- a number of nodes, and those of trees
  pub nodes_among : {m : _} → ℕ → Row_of-Tree m → ℕ
  nodes_among n end_of-Tree = n
  nodes_among n (more_of-Tree t ts) = nodes_among (counted n (nodes t)) ts

-- the number of the class of the token at a place; behind the tokens stands the end mark
unfoldable pub class_at : List Class → ℕ → ℕ
class_at classes k = class_number (get_or classes k EndMark)

-- what a node sees of a tree
abbrev pub head_in : List Class → Tree → Head
head_in classes (Leaf k) = of_class (class_at classes k)
head_in classes (Node' f row parts) = of_form (form_number f)

-- the number of a part, in the node of a number, where the next node has another
abbrev pub number_of : ℕ → ℕ → Tree → ℕ
number_of inside next (Leaf k) = inside
number_of inside next (Node' _ row parts) = next

-- trees as parts of the node of a number, where the first node among them has another
abbrev pub parts_from : List Class → ℕ → ℕ → List Tree → List Part
parts_from classes inside next [] = []
parts_from classes inside next (t ∷ ts) =
    record { at = number_of inside next t; head = head_in classes t; tree = t }
    ∷ parts_from classes inside (counted next (nodes t)) ts

-- the parts of the node of a number
abbrev pub parts_of : List Class → ℕ → List Tree → List Part
parts_of classes at ts = parts_from classes at (counted at 1) ts
