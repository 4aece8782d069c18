use Rattle.std.proofs.Common.{◌≡◌, ◌+◌, length, None}
use Rattle.market_types.specs.Ordered.{AreTicks}
use Rattle.price_rows.specs.Files.{rows_from}
use Rattle.price_rows.specs.Rows.{judged_tick}
use Rattle.price_rows.proofs.RowLaws.{after_rows, last_of}
use Rattle.price_rows.proofs.files.ticks_in.Given as goal

abbrev pub invariant-loop-record : goal.invariant-loop-record
invariant-loop-record l = record {
  left : rows_from (judged_tick l.width) 2 None l.initial.records ≡ after_rows l.ticks (rows_from (judged_tick l.width) l.row (last_of l.ticks) l.records);
  count : l.row ≡ length l.ticks + 2;
  are : AreTicks l.ticks;
}

abbrev pub decreases-loop-record : goal.decreases-loop-record
decreases-loop-record l = length l.records
