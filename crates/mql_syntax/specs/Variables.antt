-- Variables (MQL5 Reference, Variables).
use Rattle.std.specs.Prelude.{ℕ, Bool, false, ◌||◌, List, [], ◌∷◌, Option, Some, None, option_map, if◌then◌else◌}
use Rattle.mql_grammar.specs.declared.token_class.Class.{Class}
use Rattle.mql_grammar.specs.declared.token_class.Class.TheVariants as class
use Rattle.mql_tree.specs.declared.token.Span.{Span}
use Rattle.mql_tree.specs.declared.token.Token.{Token}
use Rattle.mql_views.specs.Parts.{Part}
use Rattle.mql_views.specs.Cuts.{on, is}
use Rattle.mql_views.specs.Declarations as views
use Rattle.mql_views.specs.Declarations.{Typed, Variables}
use Rattle.mql_syntax.specs.Lists.{each, maybe, pieces}
use Rattle.mql_syntax.specs.Leaves.{name}
use Rattle.mql_syntax.specs.Types.{type_use}
use Rattle.mql_syntax.specs.Values.{items, value}
use Rattle.mql_syntax.specs.declared.declaration.Dimension.{Dimension}
use Rattle.mql_syntax.specs.declared.declaration.Dimension.TheVariants as dimensions
use Rattle.mql_syntax.specs.declared.declaration.Start.{Start}
use Rattle.mql_syntax.specs.declared.declaration.Start.TheVariants as starts
use Rattle.mql_syntax.specs.declared.declaration.Variable.{Variable}
use Rattle.mql_syntax.specs.declared.declaration.Words.{Words}
use Rattle.mql_syntax.specs.declared.kind.Place.{Place}

-- a token of that class is among parts
abbrev pub has : Class → List Part → Bool
has c [] = false
has c (x ∷ xs) = is (c ∷ []) [] x || has c xs

-- the words among parts
abbrev pub words_among : List Part → Words
words_among xs = record {
  is_input = has class.Input xs;
  is_static_input = has class.StaticInput xs;
  is_static = has class.Static xs;
  is_const = has class.Const xs;
  is_virtual = has class.Virtual xs;
}

-- The sizes of dimensions, which stand with their brackets: an open one has none. The first part is what was
-- last read behind `[`.
abbrev pub sizes_from : Option Part → List Part → List (Option Part)
sizes_from size [] = []
sizes_from size (x ∷ xs) =
    if is (class.OpenBracket ∷ []) [] x then sizes_from None xs
    else if is (class.CloseBracket ∷ []) [] x then size ∷ sizes_from None xs
    else sizes_from (Some x) xs

module _ (tokens : List (Token × Span)) (classes : List Class) (n : ℕ) (place : Place) where
  abbrev pub dimension : Option Part → Option Dimension
  dimension None = Some dimensions.Open
  dimension (Some p) = option_map dimensions.Size (value tokens classes n place p)

  unfoldable pub start : views.Start → Option Start
  start views.Zero = Some starts.Zero
  start (views.Value v) = option_map starts.Value (value tokens classes n place v)
  start (views.Arguments xs) = option_map starts.Arguments (each (value tokens classes n place) (items xs))

  -- a variable of a type, by the name of its class, its name, its dimensions and what it begins with
  unfoldable pub variable_of : Words → Typed → Option Part → Part → List Part → views.Start → Option Variable
  variable_of words t scope m sizes s =
      on (maybe (name tokens) scope) (λ class. on (name tokens m) (λ n'.
      on (type_use tokens classes n place t) (λ u. on (each dimension (sizes_from None sizes)) (λ ds.
      option_map (λ s. record {
        place = place;
        words = words;
        of = u;
        scope = class;
        name = n';
        dimensions = ds;
        start = s;
      }) (start s)))))

  abbrev pub variable_in : Words → Part → views.Variable → Option Variable
  variable_in words t v =
      variable_of words (record { type = t; pointer = v.pointer }) v.scope v.name v.dimensions v.start

  -- the variables of a declaration
  unfoldable pub variable : Words → Part → List Part → Option Variable
  variable words t xs = on (views.variable xs) (variable_in words t)

  unfoldable pub variables : Variables → Option (List Variable)
  variables v = each (variable (words_among v.words) v.type) (pieces v.items)
