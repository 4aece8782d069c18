use Rattle.std.proofs.Common.{List, length, ap, ◌∙◌}
use Rattle.market_types.specs.declared.bar.Bar.{Bar}
use Rattle.indicators.specs.Averages.{newest}
use Rattle.series.specs.Bars.{most_told}
use Rattle.series.proofs.Standing.{kept_stand}
use Rattle.series.proofs.series.Series.bars.Goals as goal

pub returns : goal.returns
returns c = λ quotes stand.
    ap (λ (bars : List Bar). length bars)
    (c.told.ensures.value ∙ ap (λ (bars : List Bar). newest most_told bars)
    (kept_stand c.args.period c.args.self.now.symbols c.args.symbol quotes stand))
