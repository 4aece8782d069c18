-- What ArrayCopy reads of its arguments.
use Rattle.std.specs.Prelude.{ℤ, List, [], ◌∷◌, Option, Some, None}
use Rattle.mql_meaning.specs.declared.cell.Cell.{Cell}
use Rattle.mql_meaning.specs.Changes.{then_some}
use Rattle.mql_meaning.specs.Natives.{Argument}
use Rattle.native_arguments.specs.Arguments.{cell_in, number_in}

-- the arguments of ArrayCopy
pub record CopyRead : Type 0 where
  pub target : Cell
  pub source : Cell
  pub at : ℤ
  pub start : ℤ
  pub count : ℤ

-- five arguments as ArrayCopy reads them; none where they are others
abbrev pub read_5 : List Argument → Option CopyRead
read_5 (t ∷ s ∷ a ∷ f ∷ n ∷ []) =
    then_some (cell_in t) (λ target. then_some (cell_in s) (λ source. then_some (number_in a) (λ at.
    then_some (number_in f) (λ start. then_some (number_in n) (λ count.
    Some (record { target = target; source = source; at = at; start = start; count = count }))))))
read_5 _ = None
