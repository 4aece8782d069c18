-- Members of enumerations and their values (MQL5 Reference, Data Types, Enumerations): each is a constant of
-- `int`; one without a value is one more than the one before, the first is 0.
use Rattle.std.specs.Prelude.{ℕ, ℤ, pos, negsuc, ◌+ℤ◌, int_lt, int_le, Bool, true, false, ◌&&◌, ◌||◌, List, [], ◌∷◌, ◌++◌, flat_map, bytes_eq, Option, Some, None, is_none, if◌then◌else◌}
use Rattle.fx8.specs.declared.int_kind.IntKind.TheVariants as kind
use Rattle.natives.specs.declared.types.ConstantValue.{ConstantValue}
use Rattle.natives.specs.declared.types.ConstantValue.TheVariants.{Integer, Double}
use Rattle.natives.specs.declared.types.SimpleType.{SimpleType}
use Rattle.natives.specs.declared.types.SimpleType.TheVariants as simple
use Rattle.natives.specs.Constants.{constant_named, constant_value}
use Rattle.mql_syntax.specs.declared.value.TypeUse.{TypeUse, Named'}
use Rattle.mql_syntax.specs.declared.value.Value.{Value}
use Rattle.mql_syntax.specs.declared.declaration.Enumerator.{Enumerator}
use Rattle.mql_syntax.specs.declared.declaration.Enumeration.{Enumeration}
use Rattle.mql_syntax.specs.declared.declaration.Item.{Item}
use Rattle.mql_syntax.specs.declared.declaration.Item.TheVariants as item
use Rattle.mql_constants.specs.Constants.{constant_of}
use Rattle.mql_names.specs.declared.fault.Broken.{Broken}
use Rattle.mql_names.specs.declared.types.Sort.{Sort}
use Rattle.mql_names.specs.declared.types.Sort.TheVariants as sort
use Rattle.mql_names.specs.Faults.{break_if}
use Rattle.mql_names.specs.Scopes.{Name, is_among}
use Rattle.mql_names.specs.Types.{Names, type_sort}
use Rattle.mql_sizes.specs.declared.member.EnumMember.{EnumMember}
use Rattle.mql_sizes.specs.declared.member.EnumMembers.{EnumMembers}

-- the value of a member that is declared, if it has one; the last declaration of a name counts
abbrev pub value_among : List EnumMember → Name → Option ℤ
value_among [] x = None
value_among (m ∷ ms) x =
    elim (value_among ms x) [ Some v ↦ Some v | None ↦ if bytes_eq m.name x then m.value else None ]

abbrev pub Values : Type 0
Values = Name → Option ℤ

abbrev pub an_int : Option ℤ → Option ConstantValue
an_int None = None
an_int (Some x) = Some (Integer kind.Int x)

-- a named constant of the language
unfoldable pub native_number : Name → Option ConstantValue
native_number x = elim (constant_named x) [ None ↦ None | Some c ↦ Some (constant_value c) ]

-- the constant that a name is: the program's names hide those of the language, locals hide both
abbrev pub global_number : Names → Values → Name → Option ConstantValue
global_number names values x = elim (names x) [ Some m ↦ an_int (values x) | None ↦ native_number x ]

unfoldable pub number_in : Names → Values → List Name → Name → Option ConstantValue
number_in names values locals x = if is_among x locals then None else global_number names values x

abbrev pub sort_number : Sort → Option SimpleType
sort_number (sort.Simple t) = Some t
sort_number sort.Enumeration = Some (simple.Integer kind.Int)
sort_number _ = None

abbrev pub is_pointer : TypeUse → Bool
is_pointer (Named' place x pointer m row) = pointer

-- the simple type that a type is; an enumeration is an `int`
unfoldable pub simple_in : Names → TypeUse → Option SimpleType
simple_in names t = if is_pointer t then None else sort_number (type_sort names t)

-- the constant that a value is
unfoldable pub constant_in : Names → Values → List Name → Value → Option ConstantValue
constant_in names values locals v = constant_of (number_in names values locals) (simple_in names) v

-- an integer that `int` has
abbrev pub within_int : ℤ → Option ℤ
within_int x = if int_le (negsuc 2147483647) x && int_le x (pos 2147483647) then Some x else None

abbrev pub int_of : Option ConstantValue → Option ℤ
int_of None = None
int_of (Some (Integer k x)) = within_int x
int_of (Some (Double x)) = None

-- one more; there is none past the greatest `int`
abbrev pub one_more : Option ℤ → Option ℤ
one_more None = None
one_more (Some x) = within_int (x +ℤ pos 1)

abbrev pub value_of : Names → Values → Option ℤ → Option Value → Option ℤ
value_of names values next None = next
value_of names values next (Some v) = int_of (constant_in names values [] v)

-- a member, behind those that were declared before, and with what is one more than the last
unfoldable pub member_of : Names → List EnumMember → Option ℤ → Enumerator → EnumMember
member_of names before next e =
    record { name = e.name; value = value_of names (value_among before) next e.value }

abbrev pub members_of : Names → List EnumMember → Option ℤ → List Enumerator → List EnumMember
members_of names before next [] = []
members_of names before next (e ∷ es) =
    let m = member_of names before next e in
    m ∷ members_of names (before ++ m ∷ []) (one_more m.value) es

unfoldable pub enumeration_of : Names → List EnumMember → Enumeration → EnumMembers
enumeration_of names before e =
    record { place = e.place; name = e.name; members = members_of names before (Some (pos 0)) e.values }

-- the enumerations of a program, one after another
abbrev pub enumerations_of : Names → List EnumMember → List Item → List EnumMembers
enumerations_of names before [] = []
enumerations_of names before (item.Enumeration e ∷ is) =
    let n = enumeration_of names before e in n ∷ enumerations_of names (before ++ n.members) is
enumerations_of names before (item.Group text ∷ is) = enumerations_of names before is
enumerations_of names before (item.Variable v ∷ is) = enumerations_of names before is
enumerations_of names before (item.Function f ∷ is) = enumerations_of names before is
enumerations_of names before (item.Class c ∷ is) = enumerations_of names before is

abbrev pub all_members : List EnumMembers → List EnumMember
all_members [] = []
all_members (n ∷ ns) = n.members ++ all_members ns

-- 14 a value of an enumeration is not a constant of `int`
abbrev pub some_without : List EnumMember → Bool
some_without [] = false
some_without (m ∷ ms) = is_none m.value || some_without ms

abbrev pub valueless : EnumMembers → List Broken
valueless n = break_if (some_without n.members) 14 n.place
