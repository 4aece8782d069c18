-- A conversion as the code keeps it.
use Rattle.std.specs.Prelude.{ℕ, List, Option, Some, None, decimal, unsigned_abs}
use Rattle.fx8.specs.declared.int_kind.IntKind.TheVariants as kind
use Rattle.fx8.specs.Integers.{wrapped}
use Rattle.mql_mean.specs.declared.value.Value.{Value, out-Value}
use Rattle.mql_meaning.specs.Formats as formats
use Rattle.native_formats.specs.declared.conversion.Conversion.{Conversion}
use Rattle.native_formats.specs.declared.letter.Letter.{Letter}
use Rattle.native_formats.specs.declared.letter.Letter.TheVariants as letter

-- the unit of a letter
abbrev pub unit_of : Letter → ℕ
unit_of letter.D = 100
unit_of letter.I = 105
unit_of letter.U = 117
unit_of letter.SmallX = 120
unit_of letter.CapitalX = 88
unit_of letter.C = 99
unit_of letter.S = 115
unit_of letter.F = 102
unit_of letter.Percent = 37

-- the conversion, with the text behind it
abbrev pub form_of : Conversion → List ℕ → formats.Form
form_of f rest = record {
  left = f.left;
  zeros = f.zeros;
  plus = f.plus;
  width = f.width;
  precision = f.precision;
  letter = unit_of f.letter;
  rest = rest;
}

-- the conversion that a text behind a `%` begins with, where it does
abbrev pub in_text : Option (Conversion × List ℕ) → Option formats.Form
in_text None = None
in_text (Some p) = Some (form_of p.0 p.1)

-- a value as a `ulong`, and as a `ushort`
abbrev pub ulong : Value → ℕ
ulong v = unsigned_abs (wrapped kind.Ulong (formats.whole_at (out-Value v)))

abbrev pub ushort : Value → ℕ
ushort v = unsigned_abs (wrapped kind.Ushort (formats.whole_at (out-Value v)))

-- a value as a `long` in decimal
abbrev pub signed : formats.Form → Value → List ℕ
signed f v =
    let long = wrapped kind.Long (formats.whole_at (out-Value v)) in
    formats.integer f (formats.sign f long) (decimal (unsigned_abs long))
