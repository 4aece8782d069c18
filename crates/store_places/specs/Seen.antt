-- What the code sees at places, lent from the store.
use Rattle.std.specs.Prelude.{◌≡◌, Result, Ok, Err}
use Rattle.mql_meaning.specs.declared.cell.Cell.{Cell}
use Rattle.mql_meaning.specs.declared.cell.Cell.TheVariants as cell
use Rattle.mql_meaning.specs.declared.store.Store.{Store}
use Rattle.mql_meaning.specs.Changes.{Out, Done, Over}
use Rattle.store_cells.specs.declared.fault.End.{End}
use Rattle.store_cells.specs.Changes.{ended}
use Rattle.store_places.specs.declared.looks.Seen.{Seen}
use Rattle.store_places.specs.declared.looks.Seen.TheVariants as code

-- a lent cell as the cell itself, and an object as the structure of its fields
abbrev pub seen : Seen → Cell
seen (code.Cell c) = c.now
seen (code.Object fields) = cell.Structure fields.now

-- a call lends what a look-up gives that leaves the store, or says how it ends the run
abbrev pub Lends : Out Cell → Result Seen End → Store → Type 0
Lends look (Ok s) store = look ≡ Done (seen s) store
Lends look (Err e) store = look ≡ Over (ended e) store
