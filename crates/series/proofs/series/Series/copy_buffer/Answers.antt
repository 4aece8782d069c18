use Rattle.std.proofs.Common.{List, ap, ◌∙◌, subst}
use Rattle.std.specs.Prelude.{Option, slice_get}
use Rattle.market_types.specs.declared.bar.Bar.{Bar}
use Rattle.series.specs.declared.held.Held.{Held}
use Rattle.series.specs.Asked.{Fills, buffered, buffered_at}
use Rattle.series.specs.Stands.{Kept, digits}
use Rattle.series.proofs.Standing.{kept_stand}
use Rattle.series.proofs.series.Series.copy_buffer.Goals as goal

pub returns : goal.returns
returns c = λ quotes stand.
    let s = c.args.self.now in
    let h = c.in-Some.held.now in
    subst (λ (o : Option Held). Fills (buffered_at (digits s) o c.args.start c.args.count quotes) c.args.out.now c.copy_values.result c.copy_values.new.out)
    (c.in-Some.ensures.value ∙ ap (λ (k : Kept). slice_get k.held c.args.number) c.self.view_is)
    (subst (λ (bars : List Bar). Fills (buffered h c.args.start c.args.count bars) c.args.out.now c.copy_values.result c.copy_values.new.out)
    (c.all-bars.ensures.value ∙ kept_stand h.spec.period s.symbols h.spec.symbol quotes stand)
    c.copy_values.ensures)
