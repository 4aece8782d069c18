use Rattle.std.specs.Prelude.{◌≡◌, ◌++◌, length, map}
use Rattle.native_functions.specs.Strings.{text_cell}
use Rattle.native_functions.proofs.split_parts.text_cells.Given as goal

abbrev pub invariant-loop-text : goal.invariant-loop-text
invariant-loop-text l = l.cells ++ map text_cell l.rest ≡ map text_cell l.fn.texts

abbrev pub decreases-loop-text : goal.decreases-loop-text
decreases-loop-text l = length l.rest
