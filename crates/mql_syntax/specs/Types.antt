-- Types where they are written (MQL5 Reference, Data Types, and Templates).
use Rattle.std.specs.Prelude.{ℕ, zero, suc, List, [], Option, None, option_map}
use Rattle.mql_grammar.specs.declared.token_class.Class.{Class}
use Rattle.mql_tree.specs.declared.token.Span.{Span}
use Rattle.mql_tree.specs.declared.token.Token.{Token}
use Rattle.mql_tree.specs.declared.token.Tree.{Tree, out-Tree}
use Rattle.mql_tree.specs.declared.token.Tree.TheOpen.{Tree-F}
use Rattle.mql_views.specs.Parts.{Part}
use Rattle.mql_views.specs.Cuts.{on}
use Rattle.mql_views.specs.Values.{generic}
use Rattle.mql_views.specs.Declarations.{Typed, type_argument}
use Rattle.mql_syntax.specs.Lists.{each, pieces}
use Rattle.mql_syntax.specs.Leaves.{name, place_of, inner}
use Rattle.mql_syntax.specs.declared.kind.Place.{Place}
use Rattle.mql_syntax.specs.declared.value.TypeUse.{TypeUse}
use Rattle.mql_syntax.specs.declared.value.TypeUse.TheVariants as made

-- the name of a type, and the arguments of a template
pub record Named : Type 0 where
  pub name : List ℕ
  pub args : List Typed

module _ (tokens : List (Token × Span)) where
  -- a template with its arguments
  unfoldable pub generic_named : List Part → Option Named
  generic_named xs =
      on (generic xs) (λ g. on (name tokens g.callee) (λ n.
      option_map (λ args. record { name = n; args = args }) (each type_argument (pieces g.arguments))))

  abbrev pub named_in : Part → List Part → Tree-F Tree → Option Named
  named_in p xs (Tree-F.Leaf k) = option_map (λ n. record { name = n; args = [] }) (name tokens p)
  named_in p xs (Tree-F.Node f ts) = generic_named xs

  -- a name, or a template with its arguments, of the parts that it has
  unfoldable pub named : Part → List Part → Option Named
  named p xs = named_in p xs (out-Tree p.tree)

module _ (tokens : List (Token × Span)) (classes : List Class) where
  -- a type that stands at a node; nodes go in one another at most as deep as the number says
  unfoldable pub type_use : ℕ → Place → Typed → Option TypeUse
  type_use zero inside t = None
  type_use (suc n) inside t =
      on (named tokens t.type (inner classes t.type)) (λ u.
      option_map (made.Named (place_of inside t.type) u.name t.pointer)
      (each (type_use n (place_of inside t.type)) u.args))
