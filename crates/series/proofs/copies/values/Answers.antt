use Rattle.std.proofs.Common.{ℕ, ◌+◌, List, [], ◌∷◌, ◌++◌, take, ap, sym, ◌∙◌}
use Rattle.std.specs.Prelude.{ℤ, pos}
use Rattle.std.proofs.lemmas.List.{take_min}
use Rattle.market_types.specs.declared.bar.Bar.{Bar}
use Rattle.indicators.specs.Values.{told}
use Rattle.series.specs.Asked.{values_from}
use Rattle.series.proofs.Buffers.{value_more}
use Rattle.series.proofs.copies.values.Goals as goal

pub loop-k-preserved : goal.loop-k-preserved
loop-k-preserved c =
    let i = c.args.indicator.now in
    let bars = c.args.bars.now in
    let n : ℕ = c.args.place + c.loop-k.k + 1 in
    rw c.in_ok-push.ensures.items
    (ap (λ (vs : List ℤ). vs ++ c.in_ok-told.field-0 ∷ []) c.loop-k.invariant
    ∙ ap (λ (v : ℤ). values_from i bars c.args.place c.loop-k.k ++ v ∷ [])
    (c.in_ok-told.ensures ∙ ap (λ (seen : List Bar). pos (told i seen))
    (c.split_at.ensures.front ∙ ap (λ (k : ℕ). take k bars) c.min-newest.ensures ∙ take_min n bars))
    ∙ sym (value_more i bars c.args.place c.loop-k.k))
