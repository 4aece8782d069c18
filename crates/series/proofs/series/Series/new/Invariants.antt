use Rattle.std.proofs.Common.{◌≡◌, map, take}
use Rattle.market_types.specs.declared.symbol_spec.SymbolSpec.{SymbolSpec}
use Rattle.series.specs.Symbols.{histories, without_bars}
use Rattle.series.proofs.series.Series.new.Given as goal

abbrev pub invariant-loop-spec : goal.invariant-loop-spec
invariant-loop-spec l =
    map histories l.symbols.items ≡ map (λ (s : SymbolSpec). without_bars s.digits) (take l.spec-index l.spec-items)
