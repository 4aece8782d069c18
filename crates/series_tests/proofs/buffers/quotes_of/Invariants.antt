use Rattle.std.proofs.Common.{◌≡◌, ◌≤◌, ◌^◌}
use Rattle.std.specs.List.{All}
use Rattle.market_types.specs.declared.quote.Quote.{Quote}
use Rattle.market_data.specs.Quotes.{IsQuote}
use Rattle.series.specs.Bars.{lots}
use Rattle.series_tests.proofs.buffers.quotes_of.Given as goal

abbrev pub invariant-loop-price : goal.invariant-loop-price
invariant-loop-price l = All (λ (q : Quote). IsQuote q × (q.symbol ≡ 0) × (lots q ≤ 2 ^ 63)) l.quotes.items
