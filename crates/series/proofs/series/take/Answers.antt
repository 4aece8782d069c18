use Rattle.std.proofs.Common.{map, set, ap, sym, ◌∙◌, subst}
use Rattle.series.specs.Stored.{Histories}
use Rattle.series.specs.Symbols.{histories, with_quote_each, FitEach}
use Rattle.series.proofs.Standing.{shown_at, shown_same, map_set, on_err}
use Rattle.series.proofs.series.take.Goals as goal

pub returns-in_err-reserve-clause-refused : goal.returns-in_err-reserve-clause-refused
returns-in_err-reserve-clause-refused c =
    on_err c.from_residual.result _
    (shown_same histories c.args.symbols.now.items c.args.quote.now.symbol c.reserve.new.self c.index_mut-bars.result.now
    c.index_mut-bars.ensures.value c.in_err-reserve.ensures.same)

pub take-requires-clause-volumes : goal.take-requires-clause-volumes
take-requires-clause-volumes c =
    let b = c.index_mut-bars.result.now in
    subst (FitEach c.args.quote.now)
    (sym (c.in_ok-reserve.ensures.same ∙ shown_at histories c.args.symbols.now.items c.args.quote.now.symbol b (histories b) c.requires.symbol c.index_mut-bars.ensures.value))
    (c.requires.volumes (histories b))

pub returns-clause-taken : goal.returns-clause-taken
returns-clause-taken c = λ none.
    let xs = c.args.symbols.now.items in
    let i = c.args.quote.now.symbol in
    let b = c.index_mut-bars.result.now in
    map_set histories xs i c.take.new.self
    ∙ ap (λ (h : Histories). set (map histories xs) i h)
    (c.take.ensures ∙ ap (with_quote_each c.args.quote.now)
    (c.in_ok-reserve.ensures.same ∙ shown_at histories xs i b none c.requires.symbol c.index_mut-bars.ensures.value))
