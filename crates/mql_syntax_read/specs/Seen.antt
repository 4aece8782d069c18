-- What the code's words show. (No definition for readers: borrowed parts as the parts themselves.)
use Rattle.std.specs.Prelude.{List, map, option_map}
use Rattle.mql_views.specs.Parts as views
use Rattle.mql_views.specs.declared.part.Part.{Part}
use Rattle.mql_views.specs.Seen.{part_seen, seen, simple_seen, variables_seen}
use Rattle.mql_syntax.specs.declared.kind.Access.{Access}
use Rattle.mql_syntax_read.specs.Statements as statements
use Rattle.mql_syntax_read.specs.declared.read_statements.Piece.{Piece}
use Rattle.mql_syntax_read.specs.declared.read_statements.Piece.TheVariants as code_piece
use Rattle.mql_syntax_read.specs.declared.read_statements.StatementShape.{StatementShape}

abbrev pub piece_seen : Piece → statements.Piece
piece_seen (code_piece.Whole p) = statements.Whole (part_seen p)
piece_seen (code_piece.Begin s) = statements.Begin (simple_seen s)
piece_seen (code_piece.Case p) = statements.Case (part_seen p)
piece_seen code_piece.Default = statements.Default

abbrev pub pieces_seen : List Piece → List statements.Piece
pieces_seen ps = map piece_seen ps

abbrev pub statement_seen : StatementShape → statements.Shape
statement_seen s = record {
  what = s.what;
  locals = option_map variables_seen s.locals;
  values = seen s.values;
  parts = pieces_seen s.parts;
}

-- parts, each with where it is accessible
abbrev pub accessed_seen : List (Access × Part) → List (Access × views.Part)
accessed_seen ms = map (λ m. (m.0, part_seen m.1)) ms
