-- What the code's words show. (No definition for readers: borrowed parts as the parts themselves.)
use Rattle.std.specs.Prelude.{ℕ, List, map}
use Rattle.mql_grammar.specs.declared.token_class.Class.{Class}
use Rattle.mql_tree.specs.declared.token.Span.{Span}
use Rattle.mql_tree.specs.declared.token.Token.{Token}
use Rattle.mql_views.specs.Seen.{seen, type_seen}
use Rattle.mql_views.specs.Declarations as declarations
use Rattle.mql_views.specs.declared.declarations.Typed.{Typed}
use Rattle.mql_syntax.specs.Types as types
use Rattle.mql_syntax.specs.Values as values
use Rattle.mql_syntax.specs.declared.read_types.Named.{Named}
use Rattle.mql_syntax.specs.declared.kind.Place.{Place}
use Rattle.mql_syntax.specs.declared.read_values.Shape.{Shape}
use Rattle.mql_syntax.specs.declared.read_variables.Site.{Site}

abbrev pub types_seen : List Typed → List declarations.Typed
types_seen ts = map type_seen ts

abbrev pub named_seen : Named → types.Named
named_seen n = record { name = n.name; args = types_seen n.args }

abbrev pub shape_seen : Shape → values.Shape
shape_seen s = record { what = s.what; types = types_seen s.types; parts = seen s.parts }

-- what is read at a site
abbrev pub at_site : {A : Type 0} → (List (Token × Span) → List Class → ℕ → Place → A) → Site → A
at_site f s = f s.tokens.now s.classes.now s.depth s.place
