-- A format, one piece after another.
use Rattle.std.specs.Prelude.{ℕ, ◌==◌, false, List, [], ◌∷◌, Option, Some, None, Result, Ok}
use Rattle.fx8.specs.declared.fix_fault.FixFault.{FixFault}
use Rattle.mql_mean.specs.declared.value.Value.{Value}
use Rattle.mql_meaning.specs.Changes.{either}
use Rattle.mql_meaning.specs.Formats.{Form, form, in_width, written}
use Rattle.native_formats.specs.Forms.{form_of}
use Rattle.native_formats.specs.declared.pieces.Piece.{Piece}
use Rattle.native_formats.specs.declared.pieces.Piece.TheVariants as piece
use Rattle.native_formats.specs.declared.pieces.Step.{Step}

-- what a piece of a format writes, the text behind it, and the arguments that are left
pub record Part : Type 0 where
  pub text : Result (List ℕ) FixFault
  pub rest : List ℕ
  pub values : List Value

-- a conversion and its argument; without one it is empty
abbrev pub with_argument : Form → List Value → Part
with_argument f [] = record { text = Ok []; rest = f.rest; values = [] }
with_argument f (v ∷ vs) = record { text = written f v; rest = f.rest; values = vs }

-- a unit that stands as it is
abbrev pub alone : ℕ → List ℕ → List Value → Part
alone u us vs = record { text = Ok (u ∷ []); rest = us; values = vs }

-- a `%`, which a conversion may follow
abbrev pub conversion : ℕ → List ℕ → List Value → Option Form → Part
conversion u us vs None = alone u us vs
conversion u us vs (Some f) =
    either (f.letter == 37)
    (record { text = Ok (in_width f false [] (37 ∷ [])); rest = f.rest; values = vs }) (with_argument f vs)

-- the first piece of a format; none where the format is empty
abbrev pub first_part : List ℕ → List Value → Option Part
first_part [] vs = None
first_part (u ∷ us) vs = Some (either (u == 37) (conversion u us vs (form us)) (alone u us vs))

-- what the code reads, as such a part
abbrev pub piece_text : Piece → Result (List ℕ) FixFault
piece_text (piece.Unit u) = Ok (u ∷ [])
piece_text (piece.Percent f) = Ok (in_width (form_of f []) false [] (37 ∷ []))
piece_text piece.Nothing = Ok []
piece_text (piece.Argument f v) = written (form_of f []) v.now

abbrev pub part_of : Step → Part
part_of s = record { text = piece_text s.piece; rest = s.rest.now; values = s.values.now }
