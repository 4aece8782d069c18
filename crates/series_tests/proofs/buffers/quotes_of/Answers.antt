use Rattle.std.proofs.Common.{◌≡◌, ◌≤◌, ◌^◌}
use Rattle.std.proofs.lemmas.List.Elements.{All-push}
use Rattle.market_types.specs.declared.quote.Quote.{Quote}
use Rattle.market_data.specs.Quotes.{IsQuote}
use Rattle.series.specs.Bars.{lots}
use Rattle.series_tests.proofs.buffers.quotes_of.Goals as goal

abbrev IsFirst : Quote → Type 0
IsFirst q = IsQuote q × (q.symbol ≡ 0) × (lots q ≤ 2 ^ 63)

pub loop-price-preserved : goal.loop-price-preserved
loop-price-preserved c =
    rw c.in_ok-push-in-Some.ensures.items
    (All-push IsFirst c.loop-price.quotes.items c.in-Some.quote c.loop-price.invariant c.in-Some.ensures)
