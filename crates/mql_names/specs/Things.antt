-- What is declared and written in a program, in the order of the text, each with what a rule asks about it.
use Rattle.std.specs.Prelude.{Bool, true, false, List, [], ◌∷◌, ◌++◌, map, flat_map, Option, Some, None, if◌then◌else◌}
use Rattle.mql_syntax.specs.declared.value.TypeUse.{TypeUse}
use Rattle.mql_syntax.specs.declared.value.Value.{Value, Node', Row_of-Value, end_of-Value, more_of-Value}
use Rattle.mql_syntax.specs.declared.statement.Statement as statement
use Rattle.mql_syntax.specs.declared.statement.Statement.{Statement, Row_of-Statement, end_of-Statement, more_of-Statement}
use Rattle.mql_syntax.specs.declared.kind.StatementKind.{StatementKind}
use Rattle.mql_syntax.specs.declared.kind.StatementKind.TheVariants as kind
use Rattle.mql_syntax.specs.declared.kind.Place.{Place}
use Rattle.mql_syntax.specs.declared.declaration.Dimension.{Dimension}
use Rattle.mql_syntax.specs.declared.declaration.Dimension.TheVariants.{Open, Size}
use Rattle.mql_syntax.specs.declared.declaration.Start.{Start}
use Rattle.mql_syntax.specs.declared.declaration.Start.TheVariants as start
use Rattle.mql_syntax.specs.declared.declaration.Variable.{Variable}
use Rattle.mql_syntax.specs.declared.declaration.Param.{Param}
use Rattle.mql_syntax.specs.declared.declaration.Body.{Body}
use Rattle.mql_syntax.specs.declared.declaration.Body.TheVariants as body
use Rattle.mql_syntax.specs.declared.declaration.Function.{Function}
use Rattle.mql_syntax.specs.declared.declaration.Enumerator.{Enumerator}
use Rattle.mql_syntax.specs.declared.declaration.Enumeration.{Enumeration}
use Rattle.mql_syntax.specs.declared.declaration.Member.{Member}
use Rattle.mql_syntax.specs.declared.declaration.Member.TheVariants as member
use Rattle.mql_syntax.specs.declared.declaration.Class.{Class}
use Rattle.mql_syntax.specs.declared.declaration.Item.{Item}
use Rattle.mql_syntax.specs.declared.declaration.Item.TheVariants as item
use Rattle.mql_syntax.specs.declared.declaration.Syntax.{Syntax}
use Rattle.mql_names.specs.declared.scope.Named.{Named}
use Rattle.mql_names.specs.Scopes.{Name}
use Rattle.mql_names.specs.Types.{Names, form_of}

pub data Thing : Type 0 where
  -- the program itself
  program : Syntax → Thing
  -- a type that is written
  type : TypeUse → Thing
  -- a variable, a field or a parameter, and the names of the locals in force
  variable : List Name → Variable → Thing
  function : Function → Thing
  structure : Class → Thing
  enumeration : Enumeration → Thing
  -- all names of a scope
  scope : List Named → Thing

abbrev pub type_things : TypeUse → List Thing
type_things t = type t ∷ []

-- types in a value
abbrev mutual
  pub value_things : Value → List Thing
  value_things (Node' place what types m row) = flat_map type_things types ++ row_things row

  pub row_things : {m : _} → Row_of-Value m → List Thing
  row_things end_of-Value = []
  row_things (more_of-Value v vs) = value_things v ++ row_things vs

abbrev pub dimension_things : Dimension → List Thing
dimension_things Open = []
dimension_things (Size v) = value_things v

abbrev pub start_things : Start → List Thing
start_things start.Zero = []
start_things (start.Value v) = value_things v
start_things (start.Arguments vs) = flat_map value_things vs

-- variables, each with those before it in force
abbrev pub variable_things : List Name → Variable → List Thing
variable_things locals v =
    type v.of ∷ variable locals v ∷ (flat_map dimension_things v.dimensions ++ start_things v.start)

abbrev pub variables_things : List Name → List Variable → List Thing
variables_things locals [] = []
variables_things locals (v ∷ vs) = variable_things locals v ++ variables_things (locals ++ v.name ∷ []) vs

abbrev pub variable_named : Variable → Named
variable_named v = record { place = v.place; name = v.name; form = None }

abbrev pub variable_name : Variable → Name
variable_name v = v.name

-- the variables that a statement declares in the scope around it
abbrev pub own_locals : Statement → List Variable
own_locals (statement.Node' place what locals values m row) = locals

abbrev pub own_names : Statement → List Named
own_names s = map variable_named (own_locals s)

abbrev pub local_names : Statement → List Name
local_names s = map variable_name (own_locals s)

-- statements whose parts share one scope: a block, a `switch`, a `for`. Else each part has a scope of its own
abbrev pub shares : StatementKind → Bool
shares kind.Block = true
shares kind.Switch = true
shares (kind.For tested) = true
shares _ = false

-- the parts of a statement
abbrev pub list_among : {m : _} → Row_of-Statement m → List Statement
list_among end_of-Statement = []
list_among (more_of-Statement s ss) = s ∷ list_among ss

abbrev pub parts_of : Statement → List Statement
parts_of (statement.Node' place what locals values m row) = list_among row

-- the scopes that a statement makes of its parts
abbrev pub own_scope : Statement → List Thing
own_scope s = scope (own_names s) ∷ []

abbrev pub scopes_of : Bool → List Statement → List Thing
scopes_of shared ss = if shared then scope (flat_map own_names ss) ∷ [] else flat_map own_scope ss

-- behind a statement its variables are in force
abbrev pub behind : Bool → List Name → Statement → List Name
behind shared locals s = if shared then locals ++ local_names s else locals

abbrev mutual
  pub statement_things : List Name → Statement → List Thing
  statement_things locals (statement.Node' place what own values m row) =
      scopes_of (shares what) (list_among row)
      ++ (variables_things locals own
      ++ (flat_map value_things values ++ parts_things (shares what) locals row))

  pub parts_things : Bool → List Name → {m : _} → Row_of-Statement m → List Thing
  parts_things shared locals end_of-Statement = []
  parts_things shared locals (more_of-Statement s ss) =
      statement_things locals s ++ parts_things shared (behind shared locals s) ss

-- statements in a list
abbrev pub list_things : Bool → List Name → List Statement → List Thing
list_things shared locals [] = []
list_things shared locals (s ∷ ss) =
    statement_things locals s ++ list_things shared (behind shared locals s) ss

-- the statements of a function's outermost block, whose scope has the parameters too
abbrev pub body_parts : Body → List Statement
body_parts (body.Block s) = parts_of s
body_parts body.Declared = []
body_parts body.Pure = []

abbrev pub param_variable : Param → Variable
param_variable q = q.variable

abbrev pub result_things : Option TypeUse → List Thing
result_things None = []
result_things (Some t) = type_things t

abbrev pub function_things : Function → List Thing
function_things f =
    let vs = map param_variable f.params in
    function f ∷ (result_things f.result
    ++ (variables_things [] vs
    ++ (scope (map variable_named vs ++ flat_map own_names (body_parts f.body))
    ∷ list_things true (map variable_name vs) (body_parts f.body))))

abbrev pub function_named : Names → Function → Named
function_named names f = record { place = f.place; name = f.name; form = Some (form_of names f) }

abbrev pub member_named : Names → Member → Named
member_named names (member.Variable a v) = variable_named v
member_named names (member.Function a f) = function_named names f

abbrev pub member_things : Member → List Thing
member_things (member.Variable a v) = variable_things [] v
member_things (member.Function a f) = function_things f

abbrev pub enumerator_things : Enumerator → List Thing
enumerator_things e = elim (e.value) [ None ↦ [] | Some v ↦ value_things v ]

abbrev pub class_things : Names → Class → List Thing
class_things names c =
    structure c ∷ scope (map (member_named names) c.members) ∷ flat_map member_things c.members

abbrev pub item_things : Names → Item → List Thing
item_things names (item.Group text) = []
item_things names (item.Variable v) = variable_things [] v
item_things names (item.Function f) = function_things f
item_things names (item.Class c) = class_things names c
item_things names (item.Enumeration e) = enumeration e ∷ flat_map enumerator_things e.values

-- the names of the program's own scope: a structure by its definition, an enumeration and its members
abbrev pub plain_named : Place → Name → Named
plain_named place x = record { place = place; name = x; form = None }

abbrev pub enumerator_named : Place → Enumerator → Named
enumerator_named place e = plain_named place e.name

abbrev pub class_named : Class → List Named
class_named c = if c.defined then plain_named c.place c.name ∷ [] else []

abbrev pub enumeration_named : Enumeration → List Named
enumeration_named e = plain_named e.place e.name ∷ map (enumerator_named e.place) e.values

abbrev pub item_named : Names → Item → List Named
item_named names (item.Group text) = []
item_named names (item.Variable v) = variable_named v ∷ []
item_named names (item.Function f) = function_named names f ∷ []
item_named names (item.Class c) = class_named c
item_named names (item.Enumeration e) = enumeration_named e

abbrev pub things_of : Names → Syntax → List Thing
things_of names s =
    program s ∷ scope (flat_map (item_named names) s.items) ∷ flat_map (item_things names) s.items
