use Rattle.std.proofs.Common.{◌≡◌, ◌+◌, length, None}
use Rattle.market_types.specs.Ordered.{AreBars}
use Rattle.price_rows.specs.Files.{rows_from}
use Rattle.price_rows.specs.Rows.{judged_bar}
use Rattle.price_rows.proofs.RowLaws.{after_rows, last_of}
use Rattle.price_rows.proofs.files.bars_in.Given as goal

abbrev pub invariant-loop-record : goal.invariant-loop-record
invariant-loop-record l = record {
  left : rows_from judged_bar 2 None l.initial.records ≡ after_rows l.bars (rows_from judged_bar l.row (last_of l.bars) l.records);
  count : l.row ≡ length l.bars + 2;
  are : AreBars l.bars;
}

abbrev pub decreases-loop-record : goal.decreases-loop-record
decreases-loop-record l = length l.records
