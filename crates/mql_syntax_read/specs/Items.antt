-- The items of a program, and the program (MQL5 Reference, Language Basics; Enumerations; Input Variables).
use Rattle.std.specs.Prelude.{ℕ, List, [], ◌∷◌, map, Option, Some, None, option_map, if◌then◌else◌}
use Rattle.mql_forms.specs.declared.form.Form.{Form}
use Rattle.mql_forms.specs.declared.form.Form.TheVariants as form
use Rattle.mql_grammar.specs.declared.token_class.Class.{Class}
use Rattle.mql_grammar.specs.declared.token_class.Class.TheVariants as class
use Rattle.mql_tree.specs.declared.token.Span.{Span}
use Rattle.mql_tree.specs.declared.token.Token.{Token}
use Rattle.mql_tree.specs.declared.token.Token.TheVariants as token_sorts
use Rattle.mql_tree.specs.declared.token.Tree.{Tree, out-Tree}
use Rattle.mql_tree.specs.declared.token.Tree.TheOpen.{Tree-F}
use Rattle.mql_views.specs.Parts.{Part, nodes}
use Rattle.mql_views.specs.Cuts.{on, is}
use Rattle.mql_views.specs.Declarations as views
use Rattle.mql_views.specs.Items as views_items
use Rattle.mql_syntax.specs.Lists.{each, maybe, pieces, without}
use Rattle.mql_syntax.specs.Leaves.{first, token, name, place_of, part_from, inner}
use Rattle.mql_syntax.specs.Values.{value}
use Rattle.mql_syntax.specs.Variables.{variables}
use Rattle.mql_syntax.specs.declared.declaration.Enumeration.{Enumeration}
use Rattle.mql_syntax.specs.declared.declaration.Enumerator.{Enumerator}
use Rattle.mql_syntax.specs.declared.declaration.Item.{Item}
use Rattle.mql_syntax.specs.declared.declaration.Item.TheVariants as made
use Rattle.mql_syntax.specs.declared.declaration.Syntax.{Syntax}
use Rattle.mql_syntax.specs.declared.kind.Place.{Place}
use Rattle.mql_syntax_read.specs.Functions.{type_names, function}
use Rattle.mql_syntax_read.specs.Classes.{gathered, class_of}

-- the text of a string
abbrev pub text_of : Token → Option (List ℕ)
text_of (token_sorts.Str text) = Some text
text_of other = None

-- one item
abbrev pub alone : Item → List Item
alone i = i ∷ []

module _ (tokens : List (Token × Span)) where
  unfoldable pub text : Part → Option (List ℕ)
  text p = on (token tokens p) text_of

module _ (tokens : List (Token × Span)) (classes : List Class) (n : ℕ) (place : Place) where
  abbrev pub enumerator_of : views.Enumerator → Option Enumerator
  enumerator_of e =
      on (name tokens e.name) (λ m.
      option_map (λ v. record { name = m; value = v }) (maybe (value tokens classes n place) e.value))

  -- a member of an enumeration
  unfoldable pub enumerator : List Part → Option Enumerator
  enumerator xs = on (views.enumerator xs) enumerator_of

  -- an enumeration at the place
  unfoldable pub enumeration : views.Enumeration → Option Enumeration
  enumeration e =
      on (name tokens e.name) (λ m.
      option_map (λ vs. record { place = place; name = m; values = vs }) (each enumerator (pieces e.values)))

  -- the items that a declaration at the place is: each of its variables, or a function
  unfoldable pub declared : ℕ → views_items.Declaration → Option (List Item)
  declared nodes (views_items.OfVariables v) =
      option_map (map made.Variable) (variables tokens classes n place v)
  declared nodes (views_items.OfFunction f) =
      option_map (λ f. alone (made.Function f)) (function tokens classes n place nodes [] f)

  -- `input group` with its text, or a declaration
  unfoldable pub item_of : ℕ → views_items.Item → Option (List Item)
  item_of nodes (views_items.Group t) = option_map (λ t. alone (made.Group t)) (text tokens t)
  item_of nodes (views_items.Declares d) = declared nodes d

  -- a class, of the parts that it has
  unfoldable pub class_item : ℕ → List (List ℕ) → List Part → Option (List Item)
  class_item nodes types xs =
      on (views.class_of xs) (λ c.
      option_map (λ c. alone (made.Class c)) (class_of tokens classes n place nodes types c))

module _ (tokens : List (Token × Span)) (classes : List Class) (n : ℕ) where
  -- A template's class or function. The class stands at its own node, and has the template's number of nodes.
  unfoldable pub templated : Place → ℕ → List (List ℕ) → views_items.Templated → Option (List Item)
  templated place nodes types (views_items.TemplatedClass c) =
      class_item tokens classes n (place_of place c) nodes types (inner classes c)
  templated place nodes types (views_items.TemplatedFunction f) =
      option_map (λ f. alone (made.Function f)) (function tokens classes n place nodes types f)

  unfoldable pub template_of : Place → ℕ → views_items.Template → Option (List Item)
  template_of place nodes t = on (type_names tokens t.params) (λ ts. templated place nodes ts t.of)

  -- an enumeration, of the parts that it has
  unfoldable pub enumeration_item : Place → List Part → Option (List Item)
  enumeration_item place xs =
      on (views.enumeration xs) (λ e.
      option_map (λ e. alone (made.Enumeration e)) (enumeration tokens classes n place e))

  -- the items that a node of a form at the place is, of the parts that it has
  unfoldable pub form_items : Place → Form → ℕ → List Part → Option (List Item)
  form_items place form.Item nodes xs =
      on (views_items.item xs) (item_of tokens classes n place nodes)
  form_items place form.Template nodes xs = on (views_items.template xs) (template_of place nodes)
  form_items place form.Class nodes xs = class_item tokens classes n place nodes [] xs
  form_items place form.Enumeration nodes xs = enumeration_item place xs
  form_items place other nodes xs = None

  abbrev pub items_in : Place → ℕ → List Part → Tree-F Tree → Option (List Item)
  items_in place nodes xs (Tree-F.Leaf k) = None
  items_in place nodes xs (Tree-F.Node f ts) = form_items place f nodes xs

  -- the items that a part of a program is
  unfoldable pub item : Place → Part → Option (List Item)
  item inside p = items_in (place_of inside p) (nodes p.tree) (inner classes p) (out-Tree p.tree)

  -- the parts of a program's node without those that are `;` alone
  abbrev pub item_parts : Tree → List Part
  item_parts t = without (class.Semicolon ∷ []) (inner classes (part_from classes 0 0 t))

  abbrev pub program_at : Place → Tree → Option Syntax
  program_at place t =
      option_map (λ is. record { place = place; nodes = nodes t; items = is })
      (gathered (item place) (item_parts t))

  -- The program of a tree: its items in the order of the text. Types, values and statements go in one another
  -- at most as deep as the number says.
  unfoldable pub program : Tree → Option Syntax
  program t =
      if is [] (form.Program ∷ []) (part_from classes 0 0 t)
      then program_at (record { at = 0; first = first t }) t
      else None
