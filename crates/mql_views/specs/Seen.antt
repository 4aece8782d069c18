-- What the code's views show. (No definition for readers: borrowed parts as the parts themselves.)
use Rattle.std.specs.Prelude.{ℕ, Bool, List, [], Option, Some, None, map, option_map}
use Rattle.std.specs.Borrow.{Bor}
use Rattle.mql_forms.specs.Numbers.{form_number}
use Rattle.mql_grammar.specs.Forms.{Head, of_class, of_form}
use Rattle.mql_grammar.specs.Numbers.{class_number}
use Rattle.mql_views.specs.Parts.{Part}
use Rattle.mql_views.specs.Values as values
use Rattle.mql_views.specs.Declarations as declarations
use Rattle.mql_views.specs.Statements as statements
use Rattle.mql_views.specs.Items as items
use Rattle.mql_views.specs.declared.part.Head.TheVariants as code_head
use Rattle.mql_views.specs.declared.part as code
use Rattle.mql_views.specs.declared.part.Head.{Head as CodeHead}
use Rattle.mql_views.specs.declared.part.Part.{Part as CodePart}
use Rattle.mql_views.specs.declared.values.Between.{Between}
use Rattle.mql_views.specs.declared.values.Conditional.{Conditional}
use Rattle.mql_views.specs.declared.values.Bracket.{Bracket}
use Rattle.mql_views.specs.declared.values.Bracket.TheVariants as code_bracket
use Rattle.mql_views.specs.declared.values.Call.{Call}
use Rattle.mql_views.specs.declared.declarations.Typed.{Typed}
use Rattle.mql_views.specs.declared.declarations.Param.{Param}
use Rattle.mql_views.specs.declared.declarations.Body.{Body}
use Rattle.mql_views.specs.declared.declarations.Body.TheVariants as code_body
use Rattle.mql_views.specs.declared.declarations.Title.{Title}
use Rattle.mql_views.specs.declared.declarations.Function.{Function}
use Rattle.mql_views.specs.declared.declarations.Start.{Start}
use Rattle.mql_views.specs.declared.declarations.Start.TheVariants as code_start
use Rattle.mql_views.specs.declared.declarations.Variable.{Variable}
use Rattle.mql_views.specs.declared.declarations.Variables.{Variables}
use Rattle.mql_views.specs.declared.declarations.Enumerator.{Enumerator}
use Rattle.mql_views.specs.declared.declarations.Enumeration.{Enumeration}
use Rattle.mql_views.specs.declared.declarations.Parent.{Parent}
use Rattle.mql_views.specs.declared.declarations.ClassParts.{ClassParts}
use Rattle.mql_views.specs.declared.statements.If.{If}
use Rattle.mql_views.specs.declared.statements.Simple.{Simple}
use Rattle.mql_views.specs.declared.statements.Simple.TheVariants as code_simple
use Rattle.mql_views.specs.declared.statements.For.{For}
use Rattle.mql_views.specs.declared.statements.Switch.{Switch}
use Rattle.mql_views.specs.declared.items.Declaration.{Declaration}
use Rattle.mql_views.specs.declared.items.Declaration.TheVariants as code_declaration
use Rattle.mql_views.specs.declared.items.Item.{Item}
use Rattle.mql_views.specs.declared.items.Item.TheVariants as code_item
use Rattle.mql_views.specs.declared.items.Templated.{Templated}
use Rattle.mql_views.specs.declared.items.Templated.TheVariants as code_templated
use Rattle.mql_views.specs.declared.items.Template.{Template}
use Rattle.mql_views.specs.declared.items.Member.{Member}

abbrev pub head_seen : CodeHead → Head
head_seen (code_head.Token c) = of_class (class_number c)
head_seen (code_head.Node f) = of_form (form_number f)

abbrev pub part_seen : CodePart → Part
part_seen p = record { at = p.at; head = head_seen p.head; tree = p.tree.now }

abbrev pub seen : List CodePart → List Part
seen parts = map part_seen parts

-- a list of borrowed parts, and results with such lists in them
abbrev pub all : Bor (List CodePart) → List Part
all parts = seen parts.now

abbrev pub cut_seen : CodePart × Bor (List CodePart) → Part × List Part
cut_seen p = (part_seen p.0, all p.1)

abbrev pub may_seen : Bool × Bor (List CodePart) → Bool × List Part
may_seen p = (p.0, all p.1)

abbrev pub split_seen : Bor (List CodePart) × Bor (List CodePart) → List Part × List Part
split_seen p = (all p.0, all p.1)

abbrev pub maybe_seen : Option CodePart → Option Part
maybe_seen p = option_map part_seen p

abbrev pub may_be_seen : Option CodePart × Bor (List CodePart) → Option Part × List Part
may_be_seen p = (maybe_seen p.0, all p.1)

abbrev pub pair_seen : CodePart × CodePart → Part × Part
pair_seen p = (part_seen p.0, part_seen p.1)

abbrev pub between_seen : Between → values.Between
between_seen b = record {
  left = part_seen b.left;
  operator = part_seen b.operator;
  right = part_seen b.right;
}

abbrev pub conditional_seen : Conditional → values.Conditional
conditional_seen c = record {
  test = part_seen c.test;
  chosen = part_seen c.chosen;
  other = part_seen c.other;
}

abbrev pub bracket_seen : Bracket → values.Bracket
bracket_seen (code_bracket.Inner v) = values.Inner (part_seen v)
bracket_seen (code_bracket.Cast t p v) = values.Cast (part_seen t) p (part_seen v)

abbrev pub call_seen : Call → values.Call
call_seen c = record { callee = part_seen c.callee; arguments = all c.arguments }

abbrev pub type_seen : Typed → declarations.Typed
type_seen t = record { type = part_seen t.name; pointer = t.pointer }

abbrev pub typed_seen : Option Typed × Bor (List CodePart) → Option declarations.Typed × List Part
typed_seen p = (option_map type_seen p.0, all p.1)

abbrev pub preset_seen : Option CodePart → Option Part
preset_seen p = maybe_seen p

abbrev pub param_seen : Param → declarations.Param
param_seen p = record {
  constant = p.constant;
  typed = type_seen p.typed;
  reference = p.reference;
  name = part_seen p.name;
  dimensions = all p.dimensions;
  preset = maybe_seen p.preset;
}

abbrev pub body_seen : Body → declarations.Body
body_seen (code_body.Block b) = declarations.Block (part_seen b)
body_seen code_body.Declared = declarations.Declared
body_seen code_body.Pure = declarations.Pure

abbrev pub title_seen : Title → declarations.Title
title_seen t = record {
  words = all t.words;
  result = option_map type_seen t.result;
  scope = maybe_seen t.scope;
  destructor = t.destructor;
  name = part_seen t.name;
}

abbrev pub function_seen : Function → declarations.Function
function_seen f = record {
  words = all f.words;
  result = option_map type_seen f.result;
  scope = maybe_seen f.scope;
  destructor = f.destructor;
  name = part_seen f.name;
  params = all f.params;
  bases = all f.bases;
  overrides = f.overrides;
  body = body_seen f.body;
}

abbrev pub start_seen : Start → declarations.Start
start_seen code_start.Zero = declarations.Zero
start_seen (code_start.Value v) = declarations.Value (part_seen v)
start_seen (code_start.Arguments xs) = declarations.Arguments (all xs)

abbrev pub variable_seen : Variable → declarations.Variable
variable_seen v = record {
  pointer = v.pointer;
  scope = maybe_seen v.scope;
  name = part_seen v.name;
  dimensions = all v.dimensions;
  start = start_seen v.start;
}

abbrev pub variables_seen : Variables → declarations.Variables
variables_seen v = record { words = all v.words; type = part_seen v.of; items = all v.items }

abbrev pub enumerator_seen : Enumerator → declarations.Enumerator
enumerator_seen e = record { name = part_seen e.name; value = maybe_seen e.value }

abbrev pub enumeration_seen : Enumeration → declarations.Enumeration
enumeration_seen e = record { name = part_seen e.name; values = all e.values }

abbrev pub parent_seen : Parent → declarations.Parent
parent_seen p = record { access = maybe_seen p.access; type = part_seen p.of }

abbrev pub parents_seen : Option Parent × Bor (List CodePart) → Option declarations.Parent × List Part
parents_seen p = (option_map parent_seen p.0, all p.1)

abbrev pub class_seen : ClassParts → declarations.Class'
class_seen c = record {
  kind = part_seen c.kind;
  name = part_seen c.name;
  parent = option_map parent_seen c.parent;
  members = option_map all c.members;
}

abbrev pub if_seen : If → statements.If
if_seen i = record { test = part_seen i.test; chosen = part_seen i.chosen; other = maybe_seen i.other }

abbrev pub simple_seen : Simple → statements.Simple
simple_seen (code_simple.Locals v) = statements.Locals (variables_seen v)
simple_seen (code_simple.Values xs) = statements.Values (all xs)

abbrev pub for_seen : For → statements.For
for_seen f = record {
  start = simple_seen f.start;
  test = maybe_seen f.test;
  step = all f.step;
  body = part_seen f.body;
}

abbrev pub switch_seen : Switch → statements.Switch
switch_seen s = record { value = part_seen s.value; body = all s.body }

abbrev pub declaration_seen : Declaration → items.Declaration
declaration_seen (code_declaration.Function f) = items.OfFunction (function_seen f)
declaration_seen (code_declaration.Variables v) = items.OfVariables (variables_seen v)

abbrev pub item_seen : Item → items.Item
item_seen (code_item.Group t) = items.Group (part_seen t)
item_seen (code_item.Declares d) = items.Declares (declaration_seen d)

abbrev pub templated_seen : Templated → items.Templated
templated_seen (code_templated.Class c) = items.TemplatedClass (part_seen c)
templated_seen (code_templated.Function f) = items.TemplatedFunction (function_seen f)

abbrev pub template_seen : Template → items.Template
template_seen t = record { params = all t.params; of = templated_seen t.of }

abbrev pub member_seen : Member → items.Member
member_seen m = record { params = all m.params; declares = declaration_seen m.declares }
