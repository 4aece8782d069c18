-- Tokens and places of parts.
use Rattle.std.specs.Prelude.{ℕ, List, [], ◌∷◌, Option, Some, None, slice_get}
use Rattle.mql_grammar.specs.declared.token_class.Class.{Class}
use Rattle.mql_spelling.specs.declared.sign.Sign.{Sign}
use Rattle.mql_tree.specs.TokenSorts.{name_of}
use Rattle.mql_tree.specs.declared.token.Span.{Span}
use Rattle.mql_tree.specs.declared.token.Token.{Token}
use Rattle.mql_tree.specs.declared.token.Token.TheVariants as made
use Rattle.mql_tree.specs.declared.token.Tree.{Tree, Leaf, Node', Row_of-Tree, end_of-Tree, more_of-Tree, out-Tree}
use Rattle.mql_tree.specs.declared.token.Tree.TheOpen.{Tree-F}
use Rattle.mql_views.specs.Parts.{Part, counted, nodes, number_of, head_in, parts_of}
use Rattle.mql_views.specs.Cuts.{on}
use Rattle.mql_syntax.specs.declared.kind.Place.{Place}

-- the place of the token that a tree begins with
abbrev mutual
  pub first : Tree → ℕ
  first (Leaf k) = k
  first (Node' _ row parts) = first_among parts

  pub first_among : {m : _} → Row_of-Tree m → ℕ
  first_among end_of-Tree = 0
  first_among (more_of-Tree t ts) = first t

-- the place of the token that the first of trees begins with
abbrev pub first_of : List Tree → ℕ
first_of [] = 0
first_of (t ∷ ts) = first t

-- a number of nodes, and those of trees
abbrev pub nodes_of : ℕ → List Tree → ℕ
nodes_of n [] = n
nodes_of n (t ∷ ts) = nodes_of (counted n (nodes t)) ts

-- a part stands at its node, or at the node that it is a token of
abbrev pub place_at : Place → ℕ → Tree-F Tree → Place
place_at inside at (Tree-F.Leaf k) = inside
place_at inside at (Tree-F.Node f ts) = record { at = at; first = first_of ts }

unfoldable pub place_of : Place → Part → Place
place_of inside p = place_at inside p.at (out-Tree p.tree)

abbrev pub token_of : Option (Token × Span) → Option Token
token_of None = None
token_of (Some p) = Some p.0

-- the sign that a token is
abbrev pub sign_of : Token → Option Sign
sign_of (made.Sign sign) = Some sign
sign_of other = None

module _ (tokens : List (Token × Span)) where
  abbrev pub token_in : Tree-F Tree → Option Token
  token_in (Tree-F.Leaf k) = token_of (slice_get tokens k)
  token_in (Tree-F.Node f ts) = None

  -- the token that a part is; a node is none
  unfoldable pub token : Part → Option Token
  token p = token_in (out-Tree p.tree)

  -- the name or reserved word that a part is
  unfoldable pub name : Part → Option (List ℕ)
  name p = on (token p) name_of

  -- the sign that a part is
  unfoldable pub sign : Part → Option Sign
  sign p = on (token p) sign_of

module _ (classes : List Class) where
  abbrev pub parts_in : ℕ → Tree-F Tree → List Part
  parts_in at (Tree-F.Leaf k) = []
  parts_in at (Tree-F.Node f ts) = parts_of classes at ts

  -- a tree as a part of the node of a number, where the next node has another
  abbrev pub part_from : ℕ → ℕ → Tree → Part
  part_from inside next t = record { at = number_of inside next t; head = head_in classes t; tree = t }

  -- the parts of a part that is a node
  unfoldable pub inner : Part → List Part
  inner p = parts_in p.at (out-Tree p.tree)
