-- Strings as cells.
use Rattle.std.specs.Prelude.{ℕ, List}
use Rattle.mql_mean.specs.declared.value.Value.TheVariants as value
use Rattle.mql_meaning.specs.declared.cell.Cell.{Cell}
use Rattle.mql_meaning.specs.declared.cell.Cell.TheVariants as cell

-- the cell of a string
abbrev pub text_cell : List ℕ → Cell
text_cell t = cell.One (value.Str t)
