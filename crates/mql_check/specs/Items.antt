-- Enumerations, structures and functions that are only announced: what is broken in them, and the functions
-- that they call (MQL5 Reference, Language Basics, Data Types, Enumerations; Structures and Classes).
use Rattle.std.specs.Prelude.{ℕ, List, [], ◌++◌, flat_map, Some, None, if◌then◌else◌}
use Rattle.mql_syntax.specs.declared.value.Value.{Value}
use Rattle.mql_syntax.specs.declared.kind.Place.{Place}
use Rattle.mql_syntax.specs.declared.declaration.Function.{Function}
use Rattle.mql_syntax.specs.declared.declaration.Enumerator.{Enumerator}
use Rattle.mql_syntax.specs.declared.declaration.Enumeration.{Enumeration}
use Rattle.mql_syntax.specs.declared.declaration.Member.{Member}
use Rattle.mql_syntax.specs.declared.declaration.Member.TheVariants as member
use Rattle.mql_syntax.specs.declared.declaration.Class.{Class}
use Rattle.mql_syntax.specs.declared.declaration.Item.{Item}
use Rattle.mql_syntax.specs.declared.declaration.Item.TheVariants as item
use Rattle.mql_names.specs.declared.fault.Broken.{Broken}
use Rattle.mql_names.specs.Types.{is_defined}
use Rattle.mql_scope.specs.Contexts.{Program}
use Rattle.mql_expressions.specs.Values.{innermost, broken_at}
use Rattle.mql_check.specs.declared.owned.Owned.{Owned}
use Rattle.mql_check.specs.Variables.{found_outside, dimensions_broken, sizes_used, owned, together}
use Rattle.mql_check.specs.Functions.{constant_rule, param_broken, param_used}

-- 36 a member's value is not constant
abbrev pub value_broken : Program → Place → Value → List Broken
value_broken p q v = innermost q ((found_outside p v).broken ++ broken_at q (constant_rule p v))

abbrev pub enumerator_broken : Program → Place → Enumerator → List Broken
enumerator_broken p q e = elim (e.value) [ None ↦ [] | Some v ↦ value_broken p q v ]

abbrev pub enumerator_used : Program → Enumerator → List ℕ
enumerator_used p e = elim (e.value) [ None ↦ [] | Some v ↦ (found_outside p v).used ]

abbrev pub enumeration_broken : Program → Enumeration → List Broken
enumeration_broken p e = innermost e.place (flat_map (enumerator_broken p e.place) e.values)

-- the fields of a structure
abbrev pub member_broken : Program → Member → List Owned
member_broken p (member.Variable a v) = owned v.place (dimensions_broken p v)
member_broken p (member.Function a f) = []

abbrev pub class_broken : Program → Class → List Broken
class_broken p c = together (flat_map (member_broken p) c.members)

abbrev pub member_used : Program → Member → List ℕ
member_used p (member.Variable a v) = sizes_used p v
member_used p (member.Function a f) = flat_map (param_used p) f.params

-- the parameters of a function that is announced
abbrev pub announced_broken : Program → Function → List Broken
announced_broken p f =
    if is_defined f.body then [] else innermost f.place (flat_map (param_broken p) f.params)

abbrev pub announced_used : Program → Function → List ℕ
announced_used p f = if is_defined f.body then [] else flat_map (param_used p) f.params

abbrev pub item_broken : Program → Item → List Broken
item_broken p (item.Enumeration e) = enumeration_broken p e
item_broken p (item.Class c) = class_broken p c
item_broken p (item.Function f) = announced_broken p f
item_broken p _ = []

abbrev pub item_used : Program → Item → List ℕ
item_used p (item.Enumeration e) = flat_map (enumerator_used p) e.values
item_used p (item.Class c) = flat_map (member_used p) c.members
item_used p (item.Function f) = announced_used p f
item_used p _ = []
