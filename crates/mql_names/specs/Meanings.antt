-- What the names of the program's own scope mean: all that it declares shares one scope of names, members of
-- enumerations among it (MQL5 Reference, Variables, Visibility Scope; Enumerations).
use Rattle.std.specs.Prelude.{List, [], ◌∷◌, map, flat_map, Some, None, bytes_eq, if◌then◌else◌}
use Rattle.mql_syntax.specs.declared.declaration.Enumerator.{Enumerator}
use Rattle.mql_syntax.specs.declared.declaration.Enumeration.{Enumeration}
use Rattle.mql_syntax.specs.declared.declaration.Class.{Class}
use Rattle.mql_syntax.specs.declared.declaration.Item.{Item}
use Rattle.mql_syntax.specs.declared.declaration.Item.TheVariants as item
use Rattle.mql_names.specs.declared.types.Meaning.{Meaning}
use Rattle.mql_names.specs.declared.types.Meaning.TheVariants as meaning
use Rattle.mql_names.specs.Scopes.{Name}
use Rattle.mql_names.specs.Types.{Names}

-- a name, and what it means
pub record Meant : Type 0 where
  pub name : Name
  pub means : Meaning

-- the last declaration of a name counts
abbrev pub meant : List Meant → Names
meant [] q = None
meant (m ∷ ms) q =
    elim (meant ms q) [ Some n ↦ Some n | None ↦ if bytes_eq m.name q then Some m.means else None ]

abbrev pub enumerator_meant : Enumerator → Meant
enumerator_meant e = record { name = e.name; means = meaning.Member }

-- a structure is declared by its definition
abbrev pub class_meanings : Class → List Meant
class_meanings c = if c.defined then record { name = c.name; means = meaning.Structure } ∷ [] else []

abbrev pub enumeration_meanings : Enumeration → List Meant
enumeration_meanings e = record { name = e.name; means = meaning.Enumeration } ∷ map enumerator_meant e.values

abbrev pub item_meanings : Item → List Meant
item_meanings (item.Group text) = []
item_meanings (item.Variable v) = record { name = v.name; means = meaning.Other } ∷ []
item_meanings (item.Function f) = record { name = f.name; means = meaning.Other } ∷ []
item_meanings (item.Class c) = class_meanings c
item_meanings (item.Enumeration e) = enumeration_meanings e

abbrev pub names_of : List Item → Names
names_of items = meant (flat_map item_meanings items)
