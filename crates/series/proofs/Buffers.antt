-- One more value of a buffer.
use Rattle.std.proofs.Common.{◌≡◌, ℕ, zero, suc, ◌+◌, List, [], ◌∷◌, ◌++◌, take, ap, ◌∙◌, arith, add-one}
use Rattle.std.specs.Prelude.{pos}
use Rattle.market_types.specs.declared.bar.Bar.{Bar}
use Rattle.indicators.specs.declared.kinds.Indicator.{Indicator}
use Rattle.indicators.specs.Values.{told}
use Rattle.series.specs.Asked.{values_from}

behind : (i : Indicator) (bars : List Bar) (place n : ℕ) → values_from i bars place (suc n)
    ≡ values_from i bars place n ++ pos (told i (take (place + n + 1) bars)) ∷ []
behind i bars place zero = ap (λ (k : ℕ). pos (told i (take k bars)) ∷ []) (omega arith)
behind i bars place (suc n) =
    ap (λ vs. pos (told i (take (place + 1) bars)) ∷ vs) (behind i bars (place + 1) n)
    ∙ ap (λ (k : ℕ). pos (told i (take (place + 1) bars)) ∷ values_from i bars (place + 1) n ++ pos (told i (take k bars)) ∷ []) (omega arith)

pub value_more : (i : Indicator) (bars : List Bar) (place n : ℕ) → values_from i bars place (n + 1)
    ≡ values_from i bars place n ++ pos (told i (take (place + n + 1) bars)) ∷ []
value_more i bars place n = ap (values_from i bars place) (add-one n) ∙ behind i bars place n
