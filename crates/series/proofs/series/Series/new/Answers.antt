use Rattle.std.proofs.Common.{◌≡◌, ℕ, ◌<◌, List, [], map, length, get_or, ap, sym, ◌∙◌, subst}
use Rattle.std.proofs.lemmas.List.{take_all}
use Rattle.market_types.specs.declared.symbol_spec.SymbolSpec.{SymbolSpec}
use Rattle.series.specs.Stored.{Histories}
use Rattle.series.specs.Symbols.{histories, without_bars}
use Rattle.series.specs.Stands.{AreHistories}
use Rattle.series.proofs.Standing.{all_stand, digits_none}
use Rattle.series.proofs.series.Series.new.Goals as goal

pub returns-clause-stands : goal.returns-clause-stands
returns-clause-stands c =
    let none = λ (s : SymbolSpec). without_bars s.digits in
    let specs = c.as_slice-spec-items.result.now in
    let are : map histories c.loop-spec.symbols.items ≡ map none c.args.specs.now = c.loop-spec.invariant
    ∙ ap (λ (ss : List SymbolSpec). map none ss) (take_all c.loop-spec.spec-index specs c.loop-spec-test.false ∙ c.as_slice-spec-items.ensures) in
    subst (λ (hs : List Histories). (symbol : ℕ) (first : Histories) → symbol < length hs → AreHistories (get_or hs symbol first) []) (sym are)
    (all_stand c.args.specs.now)

pub returns-clause-digits : goal.returns-clause-digits
returns-clause-digits c =
    let none = λ (s : SymbolSpec). without_bars s.digits in
    let specs = c.as_slice-spec-items.result.now in
    let are : map histories c.loop-spec.symbols.items ≡ map none c.args.specs.now = c.loop-spec.invariant
    ∙ ap (λ (ss : List SymbolSpec). map none ss) (take_all c.loop-spec.spec-index specs c.loop-spec-test.false ∙ c.as_slice-spec-items.ensures) in
    ap (λ (hs : List Histories). map (λ (s : Histories). s.digits) hs) are ∙ digits_none c.args.specs.now
