-- Structures that contain themselves (MQL5 Reference, Data Types, Structures, Classes and Interfaces), in
-- programs without classes: there a structure has neither static fields nor pointers.
use Rattle.std.specs.Prelude.{ℕ, zero, suc, Bool, length, List, [], ◌∷◌, ◌++◌, flat_map, bytes_eq, Option, Some, None, if◌then◌else◌}
use Rattle.mql_syntax.specs.declared.declaration.Member.{Member}
use Rattle.mql_syntax.specs.declared.declaration.Member.TheVariants as member
use Rattle.mql_syntax.specs.declared.declaration.Parent.{Parent}
use Rattle.mql_syntax.specs.declared.declaration.Class.{Class}
use Rattle.mql_syntax.specs.declared.declaration.Item.{Item}
use Rattle.mql_syntax.specs.declared.declaration.Item.TheVariants as item
use Rattle.mql_syntax.specs.declared.declaration.Syntax.{Syntax}
use Rattle.mql_names.specs.declared.fault.Broken.{Broken}
use Rattle.mql_names.specs.Faults.{break_if}
use Rattle.mql_names.specs.Scopes.{Name, is_among}
use Rattle.mql_names.specs.Types.{type_name}
use Rattle.mql_nesting.specs.declared.structure.Structure.{Structure}

-- the name of the type of a field; that of the elements of an array
abbrev pub field_types : Member → List Name
field_types (member.Variable a v) = type_name v.of ∷ []
field_types (member.Function a f) = []

-- the name of the type of a parent
abbrev pub parent_types : Option Parent → List Name
parent_types None = []
parent_types (Some p) = type_name p.of ∷ []

-- the types of the parts of a structure: in it stand what its parent is, and its fields
abbrev pub part_types : Class → List Name
part_types c = parent_types c.parent ++ flat_map field_types c.members

-- the defined structures, in order
unfoldable pub structure_of : Class → Structure
structure_of c = record { place = c.place; name = c.name; parts = part_types c }

abbrev pub class_structures : Class → List Structure
class_structures c = if c.defined then structure_of c ∷ [] else []

abbrev pub item_structures : Item → List Structure
item_structures (item.Class c) = class_structures c
item_structures _ = []

abbrev pub structures_of : List Item → List Structure
structures_of items = flat_map item_structures items

-- the types of the parts of the structures of this name; a type that is no structure has none
abbrev pub parts_named : Name → Structure → List Name
parts_named x s = if bytes_eq s.name x then s.parts else []

abbrev pub parts_of : List Structure → Name → List Name
parts_of structures x = flat_map (parts_named x) structures

-- names, and behind them those of others that are not there yet
abbrev pub with_name : List Name → Name → List Name
with_name xs y = if is_among y xs then xs else xs ++ y ∷ []

abbrev pub joined : List Name → List Name → List Name
joined xs [] = xs
joined xs (y ∷ ys) = joined (with_name xs y) ys

-- types, and the types of the parts of each of them
abbrev pub grown : List Structure → List Name → List Name
grown structures xs = joined xs (flat_map (parts_of structures) xs)

-- so many turns of that
abbrev pub within : List Structure → ℕ → List Name → List Name
within structures zero xs = xs
within structures (suc n) xs = within structures n (grown structures xs)

-- all types that a structure contains, each once: as many turns as there are structures find all structures
abbrev pub contained : List Structure → Name → List Name
contained structures x = within structures (length structures) (joined [] (parts_of structures x))

-- 10 a structure contains itself
abbrev pub nesting : List Structure → Structure → List Broken
nesting structures s = break_if (is_among s.name (contained structures s.name)) 10 s.place

unfoldable pub breaks_nesting : Syntax → List Broken
breaks_nesting s = flat_map (nesting (structures_of s.items)) (structures_of s.items)
