-- What a program declares (MQL5 Reference, Language Basics: Data Types; Variables; Functions), with types by
-- what they are and by their names, and with the sizes of arrays.
use Rattle.std.specs.Prelude.{ℕ, ◌+◌, Bool, List, [], ◌∷◌, ◌++◌, map, flat_map, length, Option, Some, None, if◌then◌else◌}
use Rattle.mql_syntax.specs.declared.kind.Place.{Place}
use Rattle.mql_syntax.specs.declared.value.TypeUse.{TypeUse}
use Rattle.mql_syntax.specs.declared.value.Value.{Value, Node'}
use Rattle.mql_syntax.specs.declared.declaration.Dimension.{Dimension}
use Rattle.mql_syntax.specs.declared.declaration.Dimension.TheVariants.{Open, Size}
use Rattle.mql_syntax.specs.declared.declaration.Start.{Start}
use Rattle.mql_syntax.specs.declared.declaration.Start.TheVariants as start
use Rattle.mql_syntax.specs.declared.declaration.Variable.{Variable}
use Rattle.mql_syntax.specs.declared.declaration.Param.{Param}
use Rattle.mql_syntax.specs.declared.declaration.Function.{Function}
use Rattle.mql_syntax.specs.declared.declaration.Member.{Member}
use Rattle.mql_syntax.specs.declared.declaration.Member.TheVariants as member
use Rattle.mql_syntax.specs.declared.declaration.Parent.{Parent}
use Rattle.mql_syntax.specs.declared.declaration.Class.{Class}
use Rattle.mql_syntax.specs.declared.declaration.Item.{Item}
use Rattle.mql_syntax.specs.declared.declaration.Item.TheVariants as item
use Rattle.mql_names.specs.Scopes.{Name}
use Rattle.mql_names.specs.Types.{Names, type_sort, type_key, form_of, is_defined}
use Rattle.mql_names.specs.Events.{event_of}
use Rattle.mql_walk.specs.Things.{Thing, function_things}
use Rattle.mql_walk.specs.Things as thing
use Rattle.mql_sizes.specs.Members.{Values, constant_in}
use Rattle.mql_sizes.specs.Sizes.{size_of}
use Rattle.mql_decls.specs.declared.forms.TypeForm.{TypeForm}
use Rattle.mql_decls.specs.declared.forms.StartForm.{StartForm}
use Rattle.mql_decls.specs.declared.forms.StartForm.TheVariants as form
use Rattle.mql_decls.specs.declared.forms.VariableForm.{VariableForm}
use Rattle.mql_decls.specs.declared.forms.ParamForm.{ParamForm}
use Rattle.mql_decls.specs.declared.forms.FunctionForm.{FunctionForm}
use Rattle.mql_decls.specs.declared.forms.GlobalForm.{GlobalForm}
use Rattle.mql_decls.specs.declared.forms.StaticForm.{StaticForm}
use Rattle.mql_decls.specs.declared.forms.StructureForm.{StructureForm}

-- the node that a value is or stands in
abbrev pub value_place : Value → Place
value_place (Node' place what types m row) = place

-- where names mean this, and members of enumerations have these values
module _ (names : Names) (values : Values) where
  unfoldable pub type_form : TypeUse → TypeForm
  type_form t = record { sort = type_sort names t; name = type_key names t }

  -- the size of a dimension, with the names of the locals in force; none where it is open
  unfoldable pub dimension_form : List Name → Dimension → Option ℕ
  dimension_form locals Open = None
  dimension_form locals (Size v) = size_of (constant_in names values locals v)

  -- what a variable begins with, or what a parameter has by default
  unfoldable pub start_form : List Name → Start → StartForm
  start_form locals start.Zero = form.Zero
  start_form locals (start.Value v) = form.Value (value_place v) (constant_in names values locals v)
  start_form locals (start.Arguments vs) = form.Arguments (length vs)

  -- a variable, a field or a parameter
  unfoldable pub variable_form : List Name → Variable → VariableForm
  variable_form locals v =
      record {
        place = v.place;
        words = v.words;
        of = type_form v.of;
        name = v.name;
        dimensions = map (dimension_form locals) v.dimensions;
        start = start_form locals v.start;
      }

  -- parameters, each with those before it in force
  unfoldable pub param_form : List Name → Param → ParamForm
  param_form locals q = record { reference = q.reference; variable = variable_form locals q.variable }

  abbrev pub params_from : List Name → List Param → List ParamForm
  params_from locals [] = []
  params_from locals (q ∷ qs) =
      param_form locals q ∷ params_from (locals ++ q.variable.name ∷ []) qs

  abbrev pub result_form : Option TypeUse → Option TypeForm
  result_form None = None
  result_form (Some t) = Some (type_form t)

  -- a function, with the place of its item; its key is how it is spelled with the types of its parameters
  unfoldable pub function_form : ℕ → Function → FunctionForm
  function_form n f =
      record {
        place = f.place;
        item = n;
        key = form_of names f;
        result = result_form f.result;
        name = f.name;
        params = params_from [] f.params;
        defined = is_defined f.body;
        event = event_of f;
      }

  -- a static variable of a function
  unfoldable pub static_form : ℕ → Name → List Name → Variable → StaticForm
  static_form n key locals v =
      record { item = n; function = key; variable = variable_form locals v }

  abbrev pub static_in : ℕ → Name → Thing → List StaticForm
  static_in n key (thing.variable locals v) =
      if v.words.is_static then static_form n key locals v ∷ [] else []
  static_in n key _ = []

  -- the static variables among all that is written in a function, in order
  abbrev pub function_statics : ℕ → Name → Function → List StaticForm
  function_statics n key f = flat_map (static_in n key) (function_things f)

  -- the fields and the parent of a structure
  abbrev pub field_forms : Member → List VariableForm
  field_forms (member.Variable a v) = variable_form [] v ∷ []
  field_forms (member.Function a f) = []

  abbrev pub parent_form : Option Parent → Option TypeForm
  parent_form None = None
  parent_form (Some p) = Some (type_form p.of)

  unfoldable pub structure_form : Class → StructureForm
  structure_form c =
      record {
        place = c.place;
        name = c.name;
        parent = parent_form c.parent;
        fields = flat_map field_forms c.members;
      }

  -- what items declare, in order; a function and a variable with the place of its item
  abbrev pub item_functions : ℕ → Item → List FunctionForm
  item_functions n (item.Function f) = function_form n f ∷ []
  item_functions n _ = []

  abbrev pub item_globals : ℕ → Item → List GlobalForm
  item_globals n (item.Variable v) = record { item = n; variable = variable_form [] v } ∷ []
  item_globals n _ = []

  abbrev pub item_statics : ℕ → Item → List StaticForm
  item_statics n (item.Function f) = function_statics n (form_of names f) f
  item_statics n _ = []

  abbrev pub class_structures : Class → List StructureForm
  class_structures c = if c.defined then structure_form c ∷ [] else []

  abbrev pub item_structures : Item → List StructureForm
  item_structures (item.Class c) = class_structures c
  item_structures _ = []

-- what items declare, each item by its place
abbrev pub numbered : {A : Type 0} → (ℕ → Item → List A) → ℕ → List Item → List A
numbered declares n [] = []
numbered declares n (i ∷ is) = declares n i ++ numbered declares (n + 1) is
