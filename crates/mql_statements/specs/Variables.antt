-- The types of variables (MQL5 Reference, Language Basics, Variables).
use Rattle.std.specs.Prelude.{ℕ, ℤ, pos, List, [], ◌∷◌, map, Option, Some, None, option_map, if◌then◌else◌}
use Rattle.mql_mean.specs.declared.value.Value as constant
use Rattle.mql_meaning.specs.Places.{number_of}
use Rattle.mql_syntax.specs.declared.value.Value.{Value}
use Rattle.mql_syntax.specs.declared.declaration.Variable.{Variable}
use Rattle.mql_syntax.specs.declared.declaration.Dimension.{Dimension}
use Rattle.mql_syntax.specs.declared.declaration.Dimension.TheVariants.{Open, Size}
use Rattle.mql_types.specs.declared.types.Base.{Base}
use Rattle.mql_types.specs.declared.types.DataType.{DataType}
use Rattle.mql_types.specs.declared.dimensions.Dimensions.{Dimensions}
use Rattle.mql_types.specs.declared.dimensions.Dimensions.TheVariants as dims
use Rattle.mql_scope.specs.declared.context.Known.{Known}
use Rattle.mql_scope.specs.declared.context.Storage.{Storage}
use Rattle.mql_typed.specs.declared.info.Standing.{Standing}
use Rattle.mql_typed.specs.declared.info.Standing.TheVariants as stand
use Rattle.mql_scope.specs.Contexts.{Program, written}

-- the type of a variable where these locals are in force: sizes are constants
abbrev pub size_at : Option ℤ → ℕ
size_at (Some (pos n)) = n
size_at _ = 0

abbrev pub size_in : Option constant.Value → ℕ
size_in None = 0
size_in (Some v) = size_at (number_of v)

abbrev pub size_of : Program → List Known → Dimension → ℕ
size_of p ks Open = 0
size_of p ks (Size v) = size_in (p.constant ks v)

abbrev pub dimensions_of : List ℕ → Dimensions
dimensions_of [] = dims.None
dimensions_of (a ∷ []) = dims.One a
dimensions_of (a ∷ b ∷ []) = dims.Two a b
dimensions_of (a ∷ b ∷ c ∷ []) = dims.Three a b c
dimensions_of (a ∷ b ∷ c ∷ d ∷ rest) = dims.Four a b c d

abbrev pub typed_of : Program → List Known → List Dimension → Base → DataType
typed_of p ks ds b = record { base = b; dimensions = dimensions_of (map (size_of p ks) ds) }

abbrev pub variable_type : Program → List Known → Variable → Option DataType
variable_type p ks v = option_map (typed_of p ks v.dimensions) (written p v.of)

abbrev pub declared_standing : Variable → Standing
declared_standing v = if v.words.is_const then stand.Constant else stand.Variable

abbrev pub known : Variable → DataType → Storage → Known
known v t s = record { name = v.name; of = t; stands = s; standing = declared_standing v }
