-- What is written in a program, in the order of the text, each with what a rule asks about it and with the
-- names of the locals that are in force there (MQL5 Reference, Language Basics; Variables, Visibility Scope).
use Rattle.std.specs.Prelude.{Bool, true, false, List, [], ◌∷◌, ◌++◌, map, flat_map, Option, Some, None, if◌then◌else◌}
use Rattle.mql_syntax.specs.declared.value.TypeUse.{TypeUse}
use Rattle.mql_syntax.specs.declared.value.Operation.{Operation}
use Rattle.mql_syntax.specs.declared.value.Value.{Value, Node', Row_of-Value, end_of-Value, more_of-Value}
use Rattle.mql_syntax.specs.declared.statement.Statement as statements
use Rattle.mql_syntax.specs.declared.statement.Statement.{Statement, Row_of-Statement, end_of-Statement, more_of-Statement}
use Rattle.mql_syntax.specs.declared.kind.StatementKind.{StatementKind}
use Rattle.mql_syntax.specs.declared.kind.Place.{Place}
use Rattle.mql_syntax.specs.declared.declaration.Dimension.{Dimension}
use Rattle.mql_syntax.specs.declared.declaration.Dimension.TheVariants.{Open, Size}
use Rattle.mql_syntax.specs.declared.declaration.Start.{Start}
use Rattle.mql_syntax.specs.declared.declaration.Start.TheVariants as start
use Rattle.mql_syntax.specs.declared.declaration.Variable.{Variable}
use Rattle.mql_syntax.specs.declared.declaration.Function.{Function}
use Rattle.mql_syntax.specs.declared.declaration.Enumerator.{Enumerator}
use Rattle.mql_syntax.specs.declared.declaration.Member.{Member}
use Rattle.mql_syntax.specs.declared.declaration.Member.TheVariants as members
use Rattle.mql_syntax.specs.declared.declaration.Class.{Class}
use Rattle.mql_syntax.specs.declared.declaration.Item.{Item}
use Rattle.mql_syntax.specs.declared.declaration.Item.TheVariants as items
use Rattle.mql_syntax.specs.declared.declaration.Syntax.{Syntax}
use Rattle.mql_names.specs.declared.fault.Broken.{Broken}
use Rattle.mql_names.specs.Faults.{told}
use Rattle.mql_names.specs.Scopes.{Name}
use Rattle.mql_names.specs.Things.{own_locals, variable_name, local_names, shares, behind, param_variable, body_parts}

pub data Thing : Type 0 where
  -- a type that is written
  type : TypeUse → Thing
  -- a value, with what it does
  value : List Name → Place → Operation → Thing
  -- a statement, with what it does
  statement : Place → StatementKind → Thing
  -- a variable, a field or a parameter
  variable : List Name → Variable → Thing
  function : Function → Thing
  structure : Class → Thing
  member : Member → Thing

abbrev mutual
  pub value_things : List Name → Value → List Thing
  value_things locals (Node' place what types m row) =
      value locals place what ∷ (map type types ++ row_things locals row)

  pub row_things : List Name → {m : _} → Row_of-Value m → List Thing
  row_things locals end_of-Value = []
  row_things locals (more_of-Value v vs) = value_things locals v ++ row_things locals vs

abbrev pub dimension_things : List Name → Dimension → List Thing
dimension_things locals Open = []
dimension_things locals (Size v) = value_things locals v

abbrev pub start_things : List Name → Start → List Thing
start_things locals start.Zero = []
start_things locals (start.Value v) = value_things locals v
start_things locals (start.Arguments vs) = flat_map (value_things locals) vs

-- variables, each with those before it in force
abbrev pub variable_things : List Name → Variable → List Thing
variable_things locals v =
    type v.of ∷ variable locals v
    ∷ (flat_map (dimension_things locals) v.dimensions ++ start_things locals v.start)

abbrev pub variables_things : List Name → List Variable → List Thing
variables_things locals [] = []
variables_things locals (v ∷ vs) = variable_things locals v ++ variables_things (locals ++ v.name ∷ []) vs

abbrev mutual
  pub statement_things : List Name → Statement → List Thing
  statement_things locals (statements.Node' place what own values m row) =
      statement place what ∷ (variables_things locals own
      ++ (flat_map (value_things locals) values ++ parts_things (shares what) locals row))

  pub parts_things : Bool → List Name → {m : _} → Row_of-Statement m → List Thing
  parts_things shared locals end_of-Statement = []
  parts_things shared locals (more_of-Statement s ss) =
      statement_things locals s ++ parts_things shared (behind shared locals s) ss

-- statements in a list
abbrev pub list_things : Bool → List Name → List Statement → List Thing
list_things shared locals [] = []
list_things shared locals (s ∷ ss) =
    statement_things locals s ++ list_things shared (behind shared locals s) ss

-- the names of the locals in force behind statements
abbrev pub all_behind : Bool → List Name → List Statement → List Name
all_behind shared locals [] = locals
all_behind shared locals (s ∷ ss) = all_behind shared (behind shared locals s) ss

abbrev pub result_things : Option TypeUse → List Thing
result_things None = []
result_things (Some t) = type t ∷ []

abbrev pub function_things : Function → List Thing
function_things f =
    let vs = map param_variable f.params in
    function f ∷ (result_things f.result
    ++ (variables_things [] vs ++ list_things true (map variable_name vs) (body_parts f.body)))

abbrev pub inner_things : Member → List Thing
inner_things (members.Variable a v) = variable_things [] v
inner_things (members.Function a f) = function_things f

abbrev pub member_things : Member → List Thing
member_things m = member m ∷ inner_things m

abbrev pub enumerator_things : Enumerator → List Thing
enumerator_things e = elim (e.value) [ None ↦ [] | Some v ↦ value_things [] v ]

abbrev pub item_things : Item → List Thing
item_things (items.Group text) = []
item_things (items.Variable v) = variable_things [] v
item_things (items.Function f) = function_things f
item_things (items.Class c) = structure c ∷ flat_map member_things c.members
item_things (items.Enumeration e) = flat_map enumerator_things e.values

abbrev pub things_of : Syntax → List Thing
things_of s = flat_map item_things s.items

-- what is told of things by a rule
abbrev pub told_by : (Thing → List Broken) → List Thing → Option Broken
told_by rule ts = told (flat_map rule ts)
