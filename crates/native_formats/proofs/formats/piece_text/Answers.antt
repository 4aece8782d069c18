use Rattle.std.proofs.Common.{◌≡◌, IfOk, subst, sym}
use Rattle.native_formats.specs.Pieces.{piece_text}
use Rattle.native_formats.specs.declared.pieces.Piece.{Piece}
use Rattle.native_formats.proofs.formats.piece_text.Goals as goal

pub returns-in-Argument : goal.returns-in-Argument
returns-in-Argument c =
    subst (λ (p : Piece). IfOk c.written.result (λ t. t ≡ piece_text p)) (sym c.in-Argument.is) c.written.ensures
