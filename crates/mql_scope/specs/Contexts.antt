-- What is known where a node stands (MQL5 Reference, Language Basics, Variables, Visibility Scope; Data Types).
use Rattle.std.specs.Prelude.{ℕ, ◌+◌, Bool, List, [], ◌∷◌, ◌++◌, length, map, Option, Some, None, option_map, bytes_eq, if◌then◌else◌}
use Rattle.mql_mean.specs.declared.value.Value.{Value}
use Rattle.mql_meaning.specs.declared.types.VarType.{VarType}
use Rattle.mql_syntax.specs.declared.value.Value as syntax
use Rattle.mql_syntax.specs.declared.value.TypeUse.{TypeUse}
use Rattle.mql_syntax.specs.declared.kind.Place.{Place}
use Rattle.mql_names.specs.declared.types.Sort.{Sort}
use Rattle.mql_names.specs.declared.types.Sort.TheVariants as sort
use Rattle.mql_names.specs.Types.{Names, type_sort, type_name}
use Rattle.mql_types.specs.declared.types.Base.{Base}
use Rattle.mql_types.specs.declared.types.Base.TheVariants as base
use Rattle.mql_types.specs.declared.overloads.Signature.{Signature}
use Rattle.mql_scope.specs.declared.context.Known.{Known}
use Rattle.mql_scope.specs.declared.context.Layout.{Layout}
use Rattle.mql_scope.specs.declared.context.Enumeration.{Enumeration}

abbrev pub Text : Type 0
Text = List ℕ

-- the whole program: what its names mean; structures, the supplied ones first; enumerations; global variables;
-- functions with the defaults of their parameters, each by its function's number and its place; the constant
-- that an expression is where these locals are in force, if it is one; the line and the file of a node
pub record Program : Type 0 where
  pub names : Names
  pub structures : List Layout
  pub enumerations : List Enumeration
  pub globals : List Known
  pub functions : List Signature
  pub default : ℕ → ℕ → Option Value
  pub constant : List Known → syntax.Value → Option Value
  pub line : Place → ℕ
  pub file : Place → Text

-- a place in a function: its name and the type of its result; whether `break` and `continue` may stand there;
-- the variables in force, the innermost last; the numbers of the next local and of the next static variable
pub record Context : Type 0 where
  pub program : Program
  pub function : Text
  pub result : Option Base
  pub breaks : Bool
  pub continues : Bool
  pub locals : List Known
  pub next : ℕ
  pub statics : ℕ

-- behind something that takes locals, declares variables, and takes static variables
abbrev pub behind : List VarType → List Known → ℕ → Context → Context
behind taken declared more c =
    record c { next = c.next + length taken; locals = c.locals ++ declared; statics = c.statics + more }

-- the last item that passes a test, with its place
abbrev pub either : {A : Type 0} → Option A → Option A → Option A
either (Some a) b = Some a
either None b = b

-- the last variable of a name: the innermost hides the others
abbrev pub variable_named : Text → List Known → Option Known
variable_named x [] = None
variable_named x (k ∷ ks) = either (variable_named x ks) (if bytes_eq k.name x then Some k else None)

-- the number of the last structure or enumeration of a name: the program's hide supplied ones
abbrev pub number_named : Text → List Text → ℕ → Option ℕ
number_named x [] n = None
number_named x (y ∷ ys) n = either (number_named x ys (n + 1)) (if bytes_eq y x then Some n else None)

abbrev pub layout_names : List Layout → List Text
layout_names ls = map (λ (l : Layout). l.name) ls

abbrev pub enumeration_names : List Enumeration → List Text
enumeration_names es = map (λ (e : Enumeration). e.name) es

abbrev pub structure_number : Program → Text → Option ℕ
structure_number p x = number_named x (layout_names p.structures) 0

abbrev pub enumeration_number : Program → Text → Option ℕ
enumeration_number p x = number_named x (enumeration_names p.enumerations) 0

-- the type that a sort with a name is; none for `void`
abbrev pub sort_type : Program → Text → Sort → Option Base
sort_type p x sort.Void = None
sort_type p x (sort.Simple s) = Some (base.Simple s)
sort_type p x sort.Enumeration = option_map base.Enumeration (enumeration_number p x)
sort_type p x sort.Structure = option_map base.Structure (structure_number p x)
sort_type p x sort.Unknown = None

-- the type that is written
abbrev pub written : Program → TypeUse → Option Base
written p t = sort_type p (type_name t) (type_sort p.names t)
