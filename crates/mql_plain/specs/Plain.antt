-- Plain programs: without `class`, `interface`, methods, static members, templates, pointers, `this`, `new`,
-- `delete`, `dynamic_cast` and `::` (own).
use Rattle.std.specs.Prelude.{Bool, true, false, not, ◌||◌, ◌==◌, List, [], ◌∷◌, length, Option, Some, None, is_some}
use Rattle.mql_syntax.specs.declared.kind.Place.{Place}
use Rattle.mql_syntax.specs.declared.kind.ClassKind.{ClassKind}
use Rattle.mql_syntax.specs.declared.kind.ClassKind.TheVariants as classes
use Rattle.mql_syntax.specs.declared.kind.StatementKind.{StatementKind}
use Rattle.mql_syntax.specs.declared.kind.StatementKind.TheVariants as statements
use Rattle.mql_syntax.specs.declared.kind.UnaryOperator.{UnaryOperator}
use Rattle.mql_syntax.specs.declared.kind.UnaryOperator.TheVariants as before
use Rattle.mql_syntax.specs.declared.value.Operation.{Operation}
use Rattle.mql_syntax.specs.declared.value.Operation.TheVariants as operation
use Rattle.mql_syntax.specs.declared.value.TypeUse.{TypeUse, Named', Row_of-TypeUse, end_of-TypeUse, more_of-TypeUse}
use Rattle.mql_syntax.specs.declared.declaration.Body.{Body}
use Rattle.mql_syntax.specs.declared.declaration.Body.TheVariants as body
use Rattle.mql_syntax.specs.declared.declaration.Function.{Function}
use Rattle.mql_syntax.specs.declared.declaration.Member.{Member}
use Rattle.mql_syntax.specs.declared.declaration.Member.TheVariants as member
use Rattle.mql_syntax.specs.declared.declaration.Parent.{Parent}
use Rattle.mql_syntax.specs.declared.declaration.Class.{Class}
use Rattle.mql_syntax.specs.declared.declaration.Syntax.{Syntax}
use Rattle.mql_names.specs.declared.fault.Broken.{Broken}
use Rattle.mql_names.specs.Faults.{break_if}
use Rattle.mql_names.specs.Types.{type_place}
use Rattle.mql_walk.specs.Things.{Thing, things_of, told_by}
use Rattle.mql_walk.specs.Things as thing

abbrev pub has_some : List TypeUse → Bool
has_some [] = false
has_some (t ∷ ts) = true

abbrev pub list_of : {m : _} → Row_of-TypeUse m → List TypeUse
list_of end_of-TypeUse = []
list_of (more_of-TypeUse t ts) = t ∷ list_of ts

-- the arguments of a template, and whether it is a pointer
abbrev pub args_of : TypeUse → List TypeUse
args_of (Named' place x pointer m row) = list_of row

abbrev pub is_pointer : TypeUse → Bool
is_pointer (Named' place x pointer m row) = pointer

abbrev pub is_derived : TypeUse → Bool
is_derived t = is_pointer t || has_some (args_of t)

abbrev pub is_pointer_operator : UnaryOperator → Bool
is_pointer_operator before.Address = true
is_pointer_operator before.Object = true
is_pointer_operator _ = false

-- an operation on objects, pointers or templates
abbrev pub is_of_objects : Operation → Bool
is_of_objects operation.This = true
is_of_objects (operation.Unary o) = is_pointer_operator o
is_of_objects (operation.Scope c x) = true
is_of_objects (operation.Generic x) = true
is_of_objects operation.New = true
is_of_objects operation.DynamicCast = true
is_of_objects _ = false

abbrev pub is_delete : StatementKind → Bool
is_delete statements.Delete = true
is_delete _ = false

abbrev pub is_struct : ClassKind → Bool
is_struct classes.Struct = true
is_struct classes.Class = false
is_struct classes.Interface = false

abbrev pub is_pure : Body → Bool
is_pure body.Pure = true
is_pure (body.Block s) = false
is_pure body.Declared = false

-- a method that is defined outside, a template, or what methods alone have
unfoldable pub is_of_classes : Function → Bool
is_of_classes f =
    is_some f.scope || (f.destructor || (not (length f.types == 0) || (not (length f.bases == 0)
    || (f.overrides || (f.words.is_virtual || is_pure f.body)))))

-- a parent is an instance of a template
abbrev pub is_derived_parent : Option Parent → Bool
is_derived_parent None = false
is_derived_parent (Some p) = is_derived p.of

-- a class, an interface, a template, or a structure whose parent is an instance of one
unfoldable pub is_no_plain_structure : Class → Bool
is_no_plain_structure c =
    not (is_struct c.kind) || (not (length c.types == 0) || is_derived_parent c.parent)

-- methods and static members
abbrev pub member_off : Member → List Broken
member_off (member.Variable a v) = break_if v.words.is_static 1 v.place
member_off (member.Function a f) = break_if true 1 f.place

-- what of a thing is not of the form
abbrev pub off : Thing → List Broken
off (thing.type t) = break_if (is_derived t) 1 (type_place t)
off (thing.value locals p o) = break_if (is_of_objects o) 1 p
off (thing.statement p k) = break_if (is_delete k) 1 p
off (thing.variable locals v) = break_if (is_some v.scope) 1 v.place
off (thing.function f) = break_if (is_of_classes f) 1 f.place
off (thing.structure c) = break_if (is_no_plain_structure c) 1 c.place
off (thing.member m) = member_off m

-- the first node in the order of tokens that is not of the form
unfoldable pub first_off : Syntax → Option Broken
first_off s = told_by off (things_of s)
