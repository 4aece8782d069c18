use Rattle.std.proofs.Common.{◌-◌, List, map, length, ap, sym, ◌∙◌}
use Rattle.market_types.specs.declared.bar.Bar.{Bar}
use Rattle.series.specs.Bars.{most_told}
use Rattle.series.specs.Symbols.{histories}
use Rattle.series.proofs.Standing.{kept_stand}
use Rattle.series.proofs.Numbers.{held_anew}
use Rattle.series.proofs.series.Series.indicator.Goals as goal

pub returns : goal.returns
returns c = λ quotes stand.
    let s = c.args.self.now in
    held_anew _ c.in-Some.indicator c.args.spec c.len-number.result _ c.saturating_sub-first.result (map histories c.self.inside.symbols.items)
    c.self.inside.held c.push.new.self s c.self.view_is c.in-Some.ensures.value (sym c.in_default-number_of.is ∙ c.number_of.ensures)
    c.len-number.ensures c.if-number-ge-MOST_HELD.false
    (c.saturating_sub-first.ensures ∙ ap (λ (bars : List Bar). length bars - most_told)
    (c.all-bars.ensures.value ∙ kept_stand c.args.spec.period s.symbols c.args.spec.symbol quotes stand))
    (c.in_ok-push.ensures {u = tt}).ok
