-- Laws of series.
use Rattle.std.specs.Prelude.{◌≡◌, ◌≤◌, ◌^◌, ℕ, List, length, All}
use Rattle.market_types.specs.declared.quote.Quote.{Quote}
use Rattle.market_types.specs.declared.period.Period.{Period}
use Rattle.series.specs.Bars.{lots}
use Rattle.series.specs.Filled.{kept_bars}
use Rattle.series.specs.Stands.{Kept, StandsFor, HaveVolumesOf, digits}

-- series that stand for the same quotes have the same bars, so they copy the same bars and, for an indicator
-- with the same bar 0, the same values: what they answer depends on the quotes so far alone
abbrev pub QuotesDecide : Type 0
QuotesDecide = (a b : Kept) (quotes : List Quote) → StandsFor a quotes → StandsFor b quotes
    → digits a ≡ digits b → (symbol : ℕ) (period : Period) → kept_bars a.symbols symbol period ≡ kept_bars b.symbols symbol period

-- no volume of a bar of at most 100,000,000 quotes leaves its type
abbrev pub FewQuotesFit : Type 0
FewQuotesFit = (kept : Kept) (quotes : List Quote) → length quotes ≤ 10 ^ 8
    → All (λ (q : Quote). lots q ≤ 2 ^ 63) quotes → HaveVolumesOf kept quotes
