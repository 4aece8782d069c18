-- The named parts of items and members (MQL5 Reference, Language Basics).
use Rattle.std.specs.Prelude.{List, [], ◌∷◌, Option, Some, None, option_map, if◌then◌else◌}
use Rattle.mql_forms.specs.declared.form.Form.TheVariants as form
use Rattle.mql_grammar.specs.declared.token_class.Class.{Class}
use Rattle.mql_grammar.specs.declared.token_class.Class.TheVariants as class
use Rattle.mql_views.specs.Parts.{Part}
use Rattle.mql_views.specs.Cuts.{on, is, must, next, sign, ended, up_to, all_to}
use Rattle.mql_views.specs.Declarations.{Function, Variables, function, variables, store_words, local_words}

-- a function, or variables
pub data Declaration : Type 0 where
  OfFunction : Function → Declaration
  OfVariables : Variables → Declaration

-- {word} type var {"," var} ";"
unfoldable pub only_variables : List Class → List Part → Option Variables
only_variables words xs = on (all_to class.Semicolon xs) (variables words)

-- What fits both a variable and a function is a function.
unfoldable pub declaration : List Class → List Part → Option Declaration
declaration words xs =
    elim (function xs) [
      | Some f ↦ Some (OfFunction f)
      | None ↦ option_map OfVariables (only_variables words xs)
    ]

-- an item: `input group` with its text, a function, or variables
pub data Item : Type 0 where
  Group : Part → Item
  Declares : Declaration → Item

unfoldable pub group : List Part → Option Part
group xs =
    on (sign (class.Input ∷ []) xs) (λ ys. on (sign (class.Group ∷ []) ys) (λ zs.
    option_map (λ t. t.0) (next zs)))

unfoldable pub item : List Part → Option Item
item xs =
    elim (group xs) [ Some t ↦ Some (Group t) | None ↦ option_map Declares (declaration store_words xs) ]

-- tmpl = "template" "<" "typename" NAME {"," "typename" NAME} ">": what stands between `<` and `>`, and the
-- parts behind
unfoldable pub template_head : List Part → Option (List Part × List Part)
template_head xs =
    on (sign (class.Template ∷ []) xs) (λ ys. on (sign (class.Less ∷ []) ys) (up_to class.Greater))

-- a template: its parameters, and its class or its function
pub data Templated : Type 0 where
  TemplatedClass : Part → Templated
  TemplatedFunction : Function → Templated

pub record Template : Type 0 where
  pub params : List Part
  pub of : Templated

unfoldable pub lone_class : List Part → Option Part
lone_class xs = on (must [] (form.Class ∷ []) xs) (λ c. ended c.0 c.1)

unfoldable pub templated : List Part → Option Templated
templated xs =
    elim (lone_class xs) [
      | Some c ↦ Some (TemplatedClass c)
      | None ↦ option_map TemplatedFunction (function xs)
    ]

unfoldable pub template : List Part → Option Template
template xs = on (template_head xs) (λ h. option_map (λ t. record { params = h.0; of = t }) (templated h.1))

-- a member: variables, or a function, which may be a template
pub record Member : Type 0 where
  pub params : List Part
  pub declares : Declaration

unfoldable pub member_template : List Part → Option Member
member_template xs =
    on (template_head xs) (λ h.
    option_map (λ f. record { params = h.0; declares = OfFunction f }) (function h.1))

unfoldable pub member : List Part → Option Member
member [] = None
member (x ∷ xs) =
    if is (class.Template ∷ []) [] x then member_template (x ∷ xs)
    else option_map (λ d. record { params = []; declares = d }) (declaration local_words (x ∷ xs))
