-- Parents of structures (MQL5 Reference, Data Types, Structures, Classes and Interfaces; Object-Oriented
-- Programming, Inheritance), in programs without classes: there each parent is to be a structure.
use Rattle.std.specs.Prelude.{ℕ, zero, suc, Bool, true, false, bytes_eq, length, List, [], ◌∷◌, ◌++◌, flat_map, Option, Some, None, if◌then◌else◌}
use Rattle.mql_syntax.specs.declared.declaration.Parent.{Parent}
use Rattle.mql_syntax.specs.declared.declaration.Class.{Class}
use Rattle.mql_syntax.specs.declared.declaration.Item.{Item}
use Rattle.mql_syntax.specs.declared.declaration.Item.TheVariants as item
use Rattle.mql_syntax.specs.declared.declaration.Syntax.{Syntax}
use Rattle.mql_names.specs.declared.fault.Broken.{Broken}
use Rattle.mql_names.specs.declared.types.Sort.{Sort}
use Rattle.mql_names.specs.declared.types.Sort.TheVariants as sort
use Rattle.mql_names.specs.Faults.{break_if}
use Rattle.mql_names.specs.Scopes.{Name, is_among}
use Rattle.mql_names.specs.Types.{Names, type_sort, type_name}
use Rattle.mql_names.specs.Rules.{is_unknown}

-- 3 an unknown parent: its name means no type
abbrev pub unknown_parent : Names → Class → Parent → List Broken
unknown_parent names c p = break_if (is_unknown (type_sort names p.of)) 3 c.place

-- a structure that has a parent, both by their names
pub record Derived : Type 0 where
  pub name : Name
  pub parent : Name

abbrev pub derived : Class → Option Parent → List Derived
derived c None = []
derived c (Some p) = record { name = c.name; parent = type_name p.of } ∷ []

abbrev pub item_derived : Item → List Derived
item_derived (item.Class c) = derived c c.parent
item_derived _ = []

-- the parent of the structure of a name, if it has one; the last declaration counts
abbrev pub Parents : Type 0
Parents = Name → Option Name

abbrev pub parent_among : List Derived → Parents
parent_among [] x = None
parent_among (d ∷ ds) x =
    elim (parent_among ds x) [ Some p ↦ Some p | None ↦ if bytes_eq d.name x then Some d.parent else None ]

-- the ancestors of a structure: its parent, the parent of that, and so on, so many at most
abbrev pub ancestors : Parents → ℕ → Name → List Name
ancestors parent zero x = []
ancestors parent (suc n) x = elim (parent x) [ None ↦ [] | Some p ↦ p ∷ ancestors parent n p ]

-- 4 a structure is its own ancestor
abbrev pub own_ancestor : Parents → ℕ → Class → List Broken
own_ancestor parent n c = break_if (is_among c.name (ancestors parent n c.name)) 4 c.place

-- 5 a parent of another kind: it is a type and no structure
abbrev pub is_other_kind : Sort → Bool
is_other_kind sort.Structure = false
is_other_kind sort.Unknown = false
is_other_kind _ = true

abbrev pub other_kind : Names → Class → Parent → List Broken
other_kind names c p = break_if (is_other_kind (type_sort names p.of)) 5 c.place

-- the rules at a structure with its parent
abbrev pub at_parent : Names → Parents → ℕ → Class → Parent → List Broken
at_parent names parent n c p =
    unknown_parent names c p ++ (own_ancestor parent n c ++ other_kind names c p)

abbrev pub at_class : Names → Parents → ℕ → Class → Option Parent → List Broken
at_class names parent n c None = []
at_class names parent n c (Some p) = at_parent names parent n c p

abbrev pub at_item : Names → Parents → ℕ → Item → List Broken
at_item names parent n (item.Class c) = at_class names parent n c c.parent
at_item names parent n _ = []

-- what breaks the rules on parents: no structure has more ancestors than there are items
abbrev pub breaks_parents : Names → Syntax → List Broken
breaks_parents names s =
    flat_map (at_item names (parent_among (flat_map item_derived s.items)) (length s.items)) s.items
