use Rattle.std.proofs.Common.{◌≤◌, length, take}
use Rattle.series.specs.Stands.{StandsFor}
use Rattle.series_tests.proofs.buffers.series_of.Given as goal

abbrev pub invariant-loop-quote : goal.invariant-loop-quote
invariant-loop-quote l = record {
  stands : StandsFor l.series (take l.quote-index l.quotes);
  symbols : 1 ≤ length l.series.symbols;
}
