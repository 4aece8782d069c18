-- Functions (MQL5 Reference, Functions; Classes and Interfaces).
use Rattle.std.specs.Prelude.{ℕ, Bool, false, true, List, [], ◌∷◌, Option, Some, None, option_map, if◌then◌else◌}
use Rattle.mql_grammar.specs.declared.token_class.Class.{Class}
use Rattle.mql_grammar.specs.declared.token_class.Class.TheVariants as class
use Rattle.mql_tree.specs.declared.token.Span.{Span}
use Rattle.mql_tree.specs.declared.token.Token.{Token}
use Rattle.mql_views.specs.Parts.{Part}
use Rattle.mql_views.specs.Cuts.{on}
use Rattle.mql_views.specs.Values.{Call, call}
use Rattle.mql_views.specs.Declarations as views
use Rattle.mql_syntax.specs.Lists.{each, maybe, pieces, without}
use Rattle.mql_syntax.specs.Leaves.{name}
use Rattle.mql_syntax.specs.Types.{type_use}
use Rattle.mql_syntax.specs.Values.{items, value}
use Rattle.mql_syntax.specs.Variables.{words_among, variable_of}
use Rattle.mql_syntax.specs.declared.declaration.Base.{Base}
use Rattle.mql_syntax.specs.declared.declaration.Body.{Body}
use Rattle.mql_syntax.specs.declared.declaration.Body.TheVariants as bodies
use Rattle.mql_syntax.specs.declared.declaration.Function.{Function}
use Rattle.mql_syntax.specs.declared.declaration.Param.{Param}
use Rattle.mql_syntax.specs.declared.declaration.Words.{Words}
use Rattle.mql_syntax.specs.declared.kind.Place.{Place}
use Rattle.mql_syntax_read.specs.Statements.{statement}

-- one part stands between the parentheses of a function: it is `void`, and says that there are no parameters
abbrev pub single : List Part → Bool
single [] = false
single (v ∷ []) = true
single (v ∷ w ∷ xs) = false

-- the words of a parameter, and what it has by default
abbrev pub param_words : Bool → Words
param_words constant = record {
  is_input = false;
  is_static_input = false;
  is_static = false;
  is_const = constant;
  is_virtual = false;
}

abbrev pub preset_start : Option Part → views.Start
preset_start None = views.Zero
preset_start (Some v) = views.Value v

module _ (tokens : List (Token × Span)) where
  -- the parameters of a template, as they stand between `<` and `>`
  unfoldable pub type_names : List Part → Option (List (List ℕ))
  type_names xs = each (name tokens) (without (class.Comma ∷ class.Typename ∷ []) xs)

module _ (tokens : List (Token × Span)) (classes : List Class) (n : ℕ) (place : Place) where
  abbrev pub param_of : views.Param → Option Param
  param_of p =
      option_map (λ v. record { reference = p.reference; variable = v })
      (variable_of tokens classes n place (param_words p.constant) p.typed None p.name p.dimensions
      (preset_start p.preset))

  -- a parameter
  unfoldable pub param : List Part → Option Param
  param xs = on (views.param xs) param_of

  -- the parameters between the parentheses of a function
  abbrev pub params_of : List Part → Option (List Param)
  params_of xs = if single xs then Some [] else each param (pieces xs)

  abbrev pub base_of : Call → Option Base
  base_of c =
      on (name tokens c.callee) (λ m.
      option_map (λ vs. record { name = m; arguments = vs })
      (each (value tokens classes n place) (items c.arguments)))

  -- the constructor of a parent or a member, which is written as a call
  unfoldable pub base : List Part → Option Base
  base xs = on (call xs) base_of

  unfoldable pub body : views.Body → Option Body
  body (views.Block b) = option_map bodies.Block (statement tokens classes n place b)
  body views.Declared = Some bodies.Declared
  body views.Pure = Some bodies.Pure

  -- a function at the place, of a number of nodes, with the parameters that are types
  unfoldable pub function : ℕ → List (List ℕ) → views.Function → Option Function
  function nodes types f =
      on (maybe (type_use tokens classes n place) f.result) (λ r. on (maybe (name tokens) f.scope) (λ s.
      on (name tokens f.name) (λ m. on (params_of f.params) (λ ps.
      on (each base (pieces f.bases)) (λ bs.
      option_map (λ b. record {
        place = place;
        nodes = nodes;
        types = types;
        words = words_among f.words;
        result = r;
        scope = s;
        destructor = f.destructor;
        name = m;
        params = ps;
        bases = bs;
        overrides = f.overrides;
        body = b;
      }) (body f.body))))))
