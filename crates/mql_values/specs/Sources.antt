-- What typing takes from a source: its constants, and the lines and files of its nodes.
use Rattle.std.specs.Prelude.{◌≡◌, ℕ, List, [], map, Option, Some, None, slice_get}
use Rattle.mql_mean.specs.declared.value.Value.{Value}
use Rattle.mql_syntax.specs.declared.kind.Place.{Place}
use Rattle.mql_syntax.specs.declared.value.Value as syntax
use Rattle.mql_syntax.specs.declared.declaration.Item.{Item}
use Rattle.mql_tree.specs.declared.token.Span.{Span}
use Rattle.mql_tree.specs.declared.token.Token as token
use Rattle.mql_names.specs.Meanings.{names_of}
use Rattle.mql_names.specs.Types.{Names}
use Rattle.mql_sizes.specs.Members.{Values, value_among, number_in, simple_in, enumerations_of, all_members}
use Rattle.mql_scope.specs.declared.context.Known.{Known}
use Rattle.mql_scope.specs.Contexts.{Text}
use Rattle.mql_program.specs.Programs.{Given}
use Rattle.mql_values.specs.Values.{as_type, constant_of}

-- tokens, each with where it stands
abbrev pub Tokens : Type 0
Tokens = List (token.Token × Span)

abbrev pub span_of : Option (token.Token × Span) → Option Span
span_of None = None
span_of (Some t) = Some t.1

abbrev pub span_at : Tokens → ℕ → Option Span
span_at tokens place = span_of (slice_get tokens place)

-- the line of a node is that of its first token; a node without tokens stands at line 1 of the first file
abbrev pub line_of : Option Span → ℕ
line_of None = 1
line_of (Some span) = span.line

abbrev pub file_of : Option Span → ℕ
file_of None = 0
file_of (Some span) = span.file

-- the name of the file of a number
abbrev pub name_of : Option Text → Text
name_of None = []
name_of (Some name) = name

unfoldable pub line_at : Tokens → Place → ℕ
line_at tokens p = line_of (span_at tokens p.first)

unfoldable pub file_at : Tokens → List Text → Place → Text
file_at tokens files p = name_of (slice_get files (file_of (span_at tokens p.first)))

abbrev pub known_names : List Known → List Text
known_names ks = map (λ (k : Known). k.name) ks

-- the constant that a value is where these locals are in force: they hide the program's names
unfoldable pub constant_at : Names → Values → List Known → syntax.Value → Option Value
constant_at names values locals v =
    constant_of (number_in names values (known_names locals)) (simple_in names) v

-- what typing takes from a source whose names mean this, and whose members have these values
unfoldable pub given_in : Names → Values → Tokens → List Text → Given
given_in names values tokens files =
    record {
      constant = constant_at names values;
      as_type = as_type;
      line = line_at tokens;
      file = file_at tokens files;
    }

-- the values of the members of a program's enumerations
abbrev pub values_of : List Item → Values
values_of items = value_among (all_members (enumerations_of (names_of items) [] items))

-- what typing takes from a program of these items, made of these tokens in these files
unfoldable pub given_of : List Item → Tokens → List Text → Given
given_of items tokens files = given_in (names_of items) (values_of items) tokens files

-- names mean what the items of a program declare, and members have the values that they have there
pub record IsSourceOf (items : List Item) (names : Names) (values : Values) : Type 0 where
  pub names_are : (x : Text) → names x ≡ names_of items x
  pub values_are : (x : Text) → values x ≡ values_of items x
