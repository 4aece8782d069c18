-- What is known of a whole program: what its names stand for, its structures, enumerations, global variables and
-- functions (MQL5 Reference, Language Basics, Functions; Variables, Input Variables; Enumerations; Data Types,
-- Structures and Classes). So far for programs without classes, interfaces, templates and methods.
use Rattle.std.specs.Prelude.{ℕ, zero, ◌+◌, ◌+ℤ◌, suc, ℤ, pos, Bool, true, false, ◌&&◌, ◌||◌, List, [], ◌∷◌, ◌++◌, map, flat_map, Option, Some, None, is_some, option_map, slice_get, bytes_eq, if◌then◌else◌}
use Rattle.fx8.specs.declared.int_kind.IntKind.TheVariants as int_kind
use Rattle.fx8.specs.Integers.{wrapped}
use Rattle.natives.specs.declared.types.SimpleType.TheVariants as simple
use Rattle.natives.specs.declared.types.Structure.{Structure}
use Rattle.natives.specs.declared.types.Structure.TheVariants as supplied
use Rattle.natives.specs.declared.supplied.SuppliedType.TheVariants as supplieds
use Rattle.natives.specs.declared.supplied.SuppliedType.{SuppliedType}
use Rattle.natives.specs.declared.field.Field as natives
use Rattle.natives.specs.Structures.{supplied_spelling, field_spelling, fields_of}
use Rattle.mql_mean.specs.declared.value.Value.{Value}
use Rattle.mql_mean.specs.declared.value.Value.TheVariants as value
use Rattle.mql_meaning.specs.declared.tree.Member.{Member}
use Rattle.mql_meaning.specs.Places.{number_of}
use Rattle.mql_syntax.specs.declared.value.Value as syntax
use Rattle.mql_syntax.specs.declared.kind.Place.{Place}
use Rattle.mql_syntax.specs.declared.kind.Access.{Access}
use Rattle.mql_syntax.specs.declared.kind.Access.TheVariants.{Public, Protected, Private}
use Rattle.mql_syntax.specs.declared.declaration.Variable.{Variable}
use Rattle.mql_syntax.specs.declared.declaration.Start.{Start}
use Rattle.mql_syntax.specs.declared.declaration.Start.TheVariants as start
use Rattle.mql_syntax.specs.declared.declaration.Param.{Param}
use Rattle.mql_syntax.specs.declared.declaration.Function.{Function}
use Rattle.mql_syntax.specs.declared.declaration.Enumerator.{Enumerator}
use Rattle.mql_syntax.specs.declared.declaration.Member as class_member
use Rattle.mql_syntax.specs.declared.declaration.Member.TheVariants as members
use Rattle.mql_syntax.specs.declared.declaration.Parent.{Parent}
use Rattle.mql_syntax.specs.declared.declaration.Class.{Class}
use Rattle.mql_syntax.specs.declared.declaration.Item.{Item}
use Rattle.mql_syntax.specs.declared.declaration.Item.TheVariants as item
use Rattle.mql_names.specs.Meanings.{names_of}
use Rattle.mql_names.specs.Types.{Names, type_name, param_keys, is_defined}
use Rattle.mql_types.specs.declared.types.Base.{Base}
use Rattle.mql_types.specs.declared.types.Base.TheVariants as base
use Rattle.mql_types.specs.declared.types.DataType.{DataType}
use Rattle.mql_types.specs.declared.overloads.Parameter.{Parameter}
use Rattle.mql_types.specs.declared.overloads.Signature.{Signature}
use Rattle.mql_scope.specs.declared.context.Known.{Known}
use Rattle.mql_scope.specs.declared.context.Storage.TheVariants as storage
use Rattle.mql_scope.specs.declared.context.Field.{Field}
use Rattle.mql_scope.specs.declared.context.Layout.{Layout}
use Rattle.mql_scope.specs.declared.context.Enumeration.{Enumeration}
use Rattle.mql_typed.specs.declared.info.Standing.{Standing}
use Rattle.mql_typed.specs.declared.info.Standing.TheVariants as stand
use Rattle.mql_scope.specs.Contexts.{Text, Program, written, either}
use Rattle.mql_typed.specs.Typed.{single}
use Rattle.mql_statements.specs.Variables.{declared_standing, variable_type}

-- What typing takes from elsewhere: the constant that an expression is, if it is one, by what the names of the
-- program mean and the members of its enumerations; a constant taken into a type; the line and the file of a node.
pub record Given : Type 0 where
  pub constant : List Known → syntax.Value → Option Value
  pub as_type : Base → Value → Option Value
  pub line : Place → ℕ
  pub file : Place → Text

-- supplied structures: their fields are accessible
abbrev pub supplied_field : natives.Field → Field
supplied_field f =
    record { name = field_spelling f.name; of = single (base.Simple f.kind); accessible = true }

abbrev pub supplied_layout : SuppliedType → Structure → Layout
supplied_layout t s = record { name = supplied_spelling t; fields = map supplied_field (fields_of s) }

abbrev pub supplied_layouts : List Layout
supplied_layouts =
    supplied_layout supplieds.MqlTradeRequest supplied.MqlTradeRequest ∷
    supplied_layout supplieds.MqlTradeResult supplied.MqlTradeResult ∷
    supplied_layout supplieds.MqlTick supplied.MqlTick ∷
    supplied_layout supplieds.MqlRates supplied.MqlRates ∷
    supplied_layout supplieds.MqlDateTime supplied.MqlDateTime ∷ []

-- what is known of the types of a program: what its names mean, its structures and enumerations
abbrev pub program_of_types : Given → Names → List Layout → List Enumeration → Program
program_of_types g names structures enumerations =
    record {
      names = names;
      structures = structures;
      enumerations = enumerations;
      globals = [];
      functions = [];
      default = λ n k. None;
      constant = g.constant;
      line = g.line;
      file = g.file;
    }

-- the names of structures and of enumerations come before their parts
abbrev pub named_layout : Text → Layout
named_layout x = record { name = x; fields = [] }

abbrev pub named_class : Class → List Layout
named_class c = if c.defined then named_layout c.name ∷ [] else []

abbrev pub named_structure : Item → List Layout
named_structure (item.Class c) = named_class c
named_structure _ = []

abbrev pub named_enumeration : Item → List Enumeration
named_enumeration (item.Enumeration e) = record { name = e.name; members = [] } ∷ []
named_enumeration _ = []

abbrev pub of_types : Given → Names → List Item → Program
of_types g names items =
    program_of_types g names (supplied_layouts ++ flat_map named_structure items)
    (flat_map named_enumeration items)

-- structures with their fields
abbrev pub is_public : Access → Bool
is_public Public = true
is_public Protected = false
is_public Private = false

abbrev pub field_with : Access → Variable → Option DataType → List Field
field_with a v None = []
field_with a v (Some t) = record { name = v.name; of = t; accessible = is_public a } ∷ []

abbrev pub field : Program → class_member.Member → List Field
field p (members.Variable a v) = field_with a v (variable_type p [] v)
field p (members.Function a f) = []

abbrev pub own_fields : Program → Class → List Field
own_fields p c = flat_map (field p) c.members

-- the structure that a program defines of a name, the last one; and how many it defines
abbrev pub class_in : Text → Item → Option Class
class_in x (item.Class c) = if c.defined && bytes_eq c.name x then Some c else None
class_in x _ = None

abbrev pub class_named : Text → List Item → Option Class
class_named x [] = None
class_named x (i ∷ is) = either (class_named x is) (class_in x i)

abbrev pub is_structure : Item → Bool
is_structure (item.Class c) = c.defined
is_structure _ = false

abbrev pub structure_count : List Item → ℕ
structure_count [] = 0
structure_count (i ∷ is) = (if is_structure i then 1 else 0) + structure_count is

-- the fields of a supplied structure of a name
abbrev pub fields_named : Text → Layout → List Field
fields_named x l = if bytes_eq l.name x then l.fields else []

-- a structure takes the fields of its parent publicly, unless another word is said
abbrev pub is_taken_publicly : Option Access → Bool
is_taken_publicly None = true
is_taken_publicly (Some a) = is_public a

abbrev pub inherited_field : Option Access → Field → Field
inherited_field a f = record f { accessible = f.accessible && is_taken_publicly a }

-- the fields that a structure has of its parent: those of the parent's parent first, then the parent's own.
-- Chains of parents are no longer than there are structures
abbrev pub inherited : Program → List Item → ℕ → Option Parent → List Field
inherited p is zero q = []
inherited p is (suc n) None = []
inherited p is (suc n) (Some q) =
    map (inherited_field q.access) (elim (class_named (type_name q.of) is) [
      | None ↦ flat_map (fields_named (type_name q.of)) supplied_layouts
      | Some c ↦ inherited p is n c.parent ++ own_fields p c
    ])

abbrev pub layout_of : Program → List Item → ℕ → Class → Layout
layout_of p is n c = record { name = c.name; fields = inherited p is n c.parent ++ own_fields p c }

abbrev pub class_layout : Program → List Item → ℕ → Class → List Layout
class_layout p is n c = if c.defined then layout_of p is n c ∷ [] else []

abbrev pub layout_in : Program → List Item → ℕ → Item → List Layout
layout_in p is n (item.Class c) = class_layout p is n c
layout_in p is n _ = []

abbrev pub layouts : Program → List Item → List Layout
layouts p is = flat_map (layout_in p is (structure_count is)) is

-- enumerations: a member without a value has one more than the one before it, the first has 0; values are of
-- `int`
abbrev pub number_or : ℤ → Option Value → ℤ
number_or next None = next
number_or next (Some x) = elim (number_of x) [ None ↦ next | Some n ↦ n ]

abbrev pub numbered : Program → Option syntax.Value → ℤ → ℤ
numbered p None next = next
numbered p (Some v) next = number_or next (p.constant [] v)

abbrev pub member : Text → ℤ → Member
member x n = record { name = x; value = n }

abbrev pub members_from : Program → ℤ → List Enumerator → List Member
members_from p next [] = []
members_from p next (e ∷ es) =
    let n = wrapped int_kind.Int (numbered p e.value next) in
    member e.name n ∷ members_from p (n +ℤ pos 1) es

abbrev pub enumeration : Program → Item → List Enumeration
enumeration p (item.Enumeration e) = record { name = e.name; members = members_from p (pos 0) e.values } ∷ []
enumeration p _ = []

abbrev pub with_types : Given → Names → List Item → Program → Program
with_types g names items p =
    program_of_types g names (supplied_layouts ++ layouts p items) (flat_map (enumeration p) items)

-- global variables in their order
abbrev pub is_input : Variable → Bool
is_input v = v.words.is_input || v.words.is_static_input

abbrev pub variables_in : Item → List Variable
variables_in (item.Variable v) = v ∷ []
variables_in _ = []

abbrev pub global_standing : Variable → Standing
global_standing v = if is_input v then stand.Input else declared_standing v

abbrev pub global_known : Variable → ℕ → DataType → Known
global_known v n t =
    record { name = v.name; of = t; stands = storage.Global n; standing = global_standing v }

abbrev pub int_type : DataType
int_type = single (base.Simple (simple.Integer int_kind.Int))

-- a variable of `void` is told elsewhere
abbrev pub type_or_int : Option DataType → DataType
type_or_int None = int_type
type_or_int (Some t) = t

abbrev pub global_type : Program → Variable → DataType
global_type p v = type_or_int (variable_type p [] v)

abbrev pub globals_from : Program → ℕ → List Variable → List Known
globals_from p n [] = []
globals_from p n (v ∷ vs) = global_known v n (global_type p v) ∷ globals_from p (n + 1) vs

-- functions that have a body, in their order
abbrev pub functions_in : Item → List Function
functions_in (item.Function f) = if is_defined f.body then f ∷ [] else []
functions_in _ = []

abbrev pub announced_in : Item → List Function
announced_in (item.Function f) = if is_defined f.body then [] else f ∷ []
announced_in _ = []

-- a default stands at the parameter, or where the function is announced
abbrev pub said : Start → Option Start
said start.Zero = None
said s = Some s

abbrev pub said_of : Param → Option Start
said_of q = said q.variable.start

abbrev pub start_at : ℕ → List Param → Option Start
start_at k qs = elim (slice_get qs k) [ None ↦ None | Some q ↦ said_of q ]

abbrev pub is_one_function : Names → Function → Function → Bool
is_one_function names f g =
    bytes_eq f.name g.name && bytes_eq (param_keys names f.params) (param_keys names g.params)

abbrev pub start_where : Names → Function → ℕ → Function → Option Start
start_where names f k g = if is_one_function names f g then start_at k g.params else None

abbrev pub announced_start : Names → Function → ℕ → List Function → Option Start
announced_start names f k [] = None
announced_start names f k (g ∷ gs) = either (start_where names f k g) (announced_start names f k gs)

abbrev pub default_start : Names → List Function → Function → ℕ → Option Start
default_start names announced f k = either (start_at k f.params) (announced_start names f k announced)

abbrev pub parameter : Program → List Function → Function → ℕ → Param → Parameter
parameter p announced f k q =
    record {
      of = global_type p q.variable;
      reference = q.reference;
      constant = q.variable.words.is_const;
      optional = is_some (default_start p.names announced f k);
    }

abbrev pub parameters_from : Program → List Function → Function → ℕ → List Param → List Parameter
parameters_from p announced f k [] = []
parameters_from p announced f k (q ∷ qs) =
    parameter p announced f k q ∷ parameters_from p announced f (k + 1) qs

abbrev pub result_of : Program → Function → Option Base
result_of p f = elim (f.result) [ None ↦ None | Some t ↦ written p t ]

abbrev pub signature : Program → List Function → ℕ → Function → Signature
signature p announced n f =
    record {
      name = f.name;
      number = n;
      parameters = parameters_from p announced f 0 f.params;
      result = result_of p f;
    }

abbrev pub signatures_from : Program → List Function → ℕ → List Function → List Signature
signatures_from p announced n [] = []
signatures_from p announced n (f ∷ fs) = signature p announced n f ∷ signatures_from p announced (n + 1) fs

-- the constant that a default is
abbrev pub constant_start : Program → Start → Option Value
constant_start p (start.Value v) = p.constant [] v
constant_start p _ = None

-- a constant taken into a type; none that typing accepts has no value there
abbrev pub zero_value : Base → Value
zero_value (base.Simple (simple.Integer k)) = value.Num k (pos 0)
zero_value (base.Simple simple.Double) = value.Dbl (pos 0)
zero_value (base.Simple simple.String) = value.Str []
zero_value _ = value.Num int_kind.Int (pos 0)

abbrev pub as_type_or_zero : Given → Base → Value → Value
as_type_or_zero g b x = elim (g.as_type b x) [ None ↦ zero_value b | Some y ↦ y ]

abbrev pub default_value : Given → Program → Param → Option Start → Option Value
default_value g p q None = None
default_value g p q (Some s) =
    option_map (as_type_or_zero g (global_type p q.variable).base) (constant_start p s)

abbrev pub default_at : Given → Program → List Function → Function → ℕ → Option Value
default_at g p announced f k =
    elim (slice_get f.params k) [
      | None ↦ None
      | Some q ↦ default_value g p q (default_start p.names announced f k)
    ]

abbrev pub default_of : Given → Program → List Function → List Function → ℕ → ℕ → Option Value
default_of g p announced functions n k =
    elim (slice_get functions n) [ None ↦ None | Some f ↦ default_at g p announced f k ]

-- functions that are announced and have no body, each once; calls may choose them, and then a rule of
-- declarations is broken
abbrev pub stands_among : Names → Function → List Function → Bool
stands_among names f [] = false
stands_among names f (g ∷ gs) = is_one_function names f g || stands_among names f gs

abbrev pub without_body : Names → List Function → List Function → List Function
without_body names known [] = []
without_body names known (f ∷ fs) =
    if stands_among names f known then without_body names known fs
    else f ∷ without_body names (known ++ f ∷ []) fs

-- all functions that calls may choose: those with a body come first
abbrev pub defined_functions : List Item → List Function
defined_functions items = flat_map functions_in items

abbrev pub announced_functions : List Item → List Function
announced_functions items = flat_map announced_in items

abbrev pub bodiless_functions : Names → List Item → List Function
bodiless_functions names items = without_body names (defined_functions items) (announced_functions items)

abbrev pub all_functions : Names → List Item → List Function
all_functions names items = defined_functions items ++ bodiless_functions names items

-- what is known of a program whose types are known, with its global variables and functions
abbrev pub with_known :
    Given → Program → List Known → List Signature → List Function → List Function → Program
with_known g p globals signatures announced functions =
    record p { globals = globals; functions = signatures; default = default_of g p announced functions }

abbrev pub with_things : Given → Names → List Item → Program → Program
with_things g names items p =
    let functions = all_functions names items in
    let announced = announced_functions items in
    with_known g p (globals_from p 0 (flat_map variables_in items)) (signatures_from p announced 0 functions)
    announced functions

-- what is known of a program whose names mean this
abbrev pub program_with : Given → Names → List Item → Program
program_with g names items = with_things g names items (with_types g names items (of_types g names items))

unfoldable pub program_of : Given → List Item → Program
program_of g items = program_with g (names_of items) items
