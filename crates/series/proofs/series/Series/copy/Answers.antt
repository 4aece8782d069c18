use Rattle.std.proofs.Common.{List, ap, ◌∙◌, subst}
use Rattle.market_types.specs.declared.bar.Bar.{Bar}
use Rattle.indicators.specs.Averages.{newest}
use Rattle.series.specs.Bars.{most_told}
use Rattle.series.specs.Asked.{Fills, copied}
use Rattle.series.proofs.Standing.{kept_stand}
use Rattle.series.proofs.series.Series.copy.Goals as goal

pub returns : goal.returns
returns c = λ quotes stand.
    subst (λ (bars : List Bar). Fills (copied c.args.start c.args.count bars) c.args.out.now c.copy_bars.result c.copy_bars.new.out)
    (c.told.ensures.value ∙ ap (λ (bars : List Bar). newest most_told bars)
    (kept_stand c.args.period c.args.self.now.symbols c.args.symbol quotes stand))
    c.copy_bars.ensures
