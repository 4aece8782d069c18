use Rattle.std.proofs.Common.{List, ◌++◌, None, ap, ◌∙◌}
use Rattle.std.specs.Prelude.{map}
use Rattle.market_types.specs.declared.quote.Quote.{Quote}
use Rattle.market_data.specs.Quotes.{tick_quote}
use Rattle.market_data.proofs.StageLaws.{nothing_heard}
use Rattle.market_data.proofs.quotes.Quotes.of_ticks.Goals as goal

pub returns : goal.returns
returns c = ap (λ (bars : List Quote). bars ++ map tick_quote c.args.ticks.now) (c.start.ensures ∙ nothing_heard None None None 0)
