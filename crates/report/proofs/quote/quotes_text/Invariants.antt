use Rattle.std.proofs.Common.{◌<◌, length}
use Rattle.std.specs.Prelude.{All}
use Rattle.market_types.specs.declared.quote.Quote.{Quote}
use Rattle.report.proofs.Lines.{LinesSoFar}
use Rattle.report.proofs.quote.quotes_text.Given as goal

abbrev pub invariant-loop-quote : goal.invariant-loop-quote
invariant-loop-quote l = record {
  lines : LinesSoFar l.market l.text l.stream;
  within : All (λ (q : Quote). q.symbol < length l.market.listed) l.stream;
}

abbrev pub decreases-loop-quote : goal.decreases-loop-quote
decreases-loop-quote l = length l.stream
