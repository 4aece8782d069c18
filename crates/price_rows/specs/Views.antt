-- What contracts read of the program's own types.
use Rattle.std.specs.Prelude.{◌≡◌, ℕ, List, ◌++◌, Result, Ok, Err, ⊤, codes}
use Rattle.std.specs.Fmt.{decimal}
use Rattle.price_rows.specs.Rows.{BarText, TickText}
use Rattle.price_rows.specs.Files.{Judged}
use Rattle.price_rows.specs.declared.fields.BarFields.{BarFields}
use Rattle.price_rows.specs.declared.fields.TickFields.{TickFields}
use Rattle.price_rows.specs.declared.row_fault.RowFault.{RowFault}
use Rattle.price_rows.specs.declared.row_fault.RowFault.TheVariants as fault

-- what the fields of the program hold
abbrev pub bar_texts : BarFields → BarText
bar_texts f = record {
  date = f.date.now;
  time = f.time.now;
  opening = f.opening.now;
  high = f.high.now;
  low = f.low.now;
  closing = f.closing.now;
  tick_volume = f.tick_volume.now;
  volume = f.volume.now;
  spread = f.spread.now;
}

abbrev pub tick_texts : TickFields → TickText
tick_texts f = record {
  date = f.date.now;
  time = f.time.now;
  bid = f.bid.now;
  ask = f.ask.now;
  last = f.last.now;
  volume = f.volume.now;
  flags = f.flags.now;
}

-- an answer of the program is that of the definition; want of memory alone is free
abbrev pub Answers : {R : Type 0} → Judged R → Result (List R) RowFault → Type 0
Answers answer (Ok rows) = answer ≡ Ok rows
Answers answer (Err (fault.Rule row rule)) = answer ≡ Err (row, rule)
Answers answer (Err fault.OutOfMemory) = ⊤

-- what a fault says of itself
abbrev pub fault_text : RowFault → List ℕ
fault_text (fault.Rule row rule) = codes "row " ++ (decimal row ++ (codes " breaks rule " ++ decimal rule))
fault_text fault.OutOfMemory = codes "out of memory"
