-- What a series answers (MQL5 Reference, CopyRates, CopyBuffer, iMA, iATR, iRSI).
use Rattle.std.specs.Prelude.{◌≡◌, ℕ, zero, suc, ◌+◌, ◌-◌, ◌==◌, nat_lt, Bool, ◌&&◌, ℤ, pos, List, [], ◌∷◌, ◌++◌, length, take, drop, Option, Some, None, Result, Ok, Err, if◌then◌else◌, position}
use Rattle.market_types.specs.Words.{period_seconds}
use Rattle.market_types.specs.declared.bar.Bar.{Bar}
use Rattle.market_types.specs.declared.quote.Quote.{Quote}
use Rattle.indicators.specs.Averages.{newest}
use Rattle.indicators.specs.Values.{told, indicator_of}
use Rattle.indicators.specs.declared.kinds.Indicator.{Indicator}
use Rattle.indicators.specs.declared.indicator_spec.IndicatorSpec.{IndicatorSpec}
use Rattle.series.specs.declared.fault.SeriesFault.{SeriesFault}
use Rattle.series.specs.declared.fault.SeriesFault.TheVariants as fault
use Rattle.series.specs.declared.held.Held.{Held}
use Rattle.series.specs.Bars.{all_bars, most_told}
use Rattle.series.specs.Stands.{Kept}

-- so many items, the last of which has `start` items behind it; the oldest first
abbrev pub part : {A : Type 0} → ℕ → ℕ → List A → List A
part start count xs = take count (drop (length xs - (start + count)) xs)

-- an answer, where there are bars enough
abbrev pub with_enough : {A : Type 0} → ℕ → ℕ → ℕ → A → Result A SeriesFault
with_enough start count told answer =
    if nat_lt told (start + count) then Err (fault.NotEnough told) else Ok answer

-- the bars that a copy of the bars told gives
abbrev pub copied : ℕ → ℕ → List Bar → Result (List Bar) SeriesFault
copied start count bars = with_enough start count (length bars) (part start count bars)

-- what an indicator tells at so many bars from a place on, where the bars begin with its bar 0
abbrev pub values_from : Indicator → List Bar → ℕ → ℕ → List ℤ
values_from i bars place zero = []
values_from i bars place (suc n) = pos (told i (take (place + 1) bars)) ∷ values_from i bars (place + 1) n

-- the values at the bars that a copy gives; `seen` are the bars from the indicator's bar 0 on
abbrev pub values_told : Indicator → ℕ → ℕ → List Bar → List ℤ
values_told i start count seen = values_from i seen (length seen - (start + count)) count

-- the values that a copy of an indicator's buffer gives over all bars of its symbol and period
abbrev pub buffered : Held → ℕ → ℕ → List Bar → Result (List ℤ) SeriesFault
buffered h start count bars =
    with_enough start count (length (newest most_told bars))
    (values_told h.indicator start count (drop h.first bars))

-- the same by the indicator's number
abbrev pub buffered_at : List ℕ → Option Held → ℕ → ℕ → List Quote → Result (List ℤ) SeriesFault
buffered_at digits None start count quotes = Err fault.BadNumber
buffered_at digits (Some h) start count quotes =
    buffered h start count (all_bars digits h.spec.symbol h.spec.period quotes)

-- a list is filled with an answer, or stays as it was
abbrev pub Fills : {A U : Type 0} → Result (List A) SeriesFault → List A → Result U SeriesFault → List A
    → Type 0
Fills (Ok items) old (Ok _) new = new ≡ items
Fills (Ok items) old (Err e) new = (e ≡ fault.OutOfMemory) × (new ≡ old)
Fills (Err f) old (Ok _) new = ⊥
Fills (Err f) old (Err e) new = (e ≡ f) × (new ≡ old)

-- two specs are equal
abbrev pub same_spec : IndicatorSpec → IndicatorSpec → Bool
same_spec a b =
    a.kind == b.kind && (a.symbol == b.symbol && (period_seconds a.period == period_seconds b.period
    && (a.length == b.length && (a.shift == b.shift && (a.method == b.method && a.price == b.price)))))

-- the number of the indicator that is held for a spec
abbrev pub number_of : IndicatorSpec → List Held → Option ℕ
number_of spec held = position (λ (h : Held). same_spec h.spec spec) held

-- the indicator that is meant, where the symbol is there and each number is in range
abbrev pub judged : List ℕ → IndicatorSpec → Option Indicator
judged digits spec = if nat_lt spec.symbol (length digits) then indicator_of spec else None

-- the number of an indicator, and those that are then held
pub record Numbered : Type 0 where
  pub number : ℕ
  pub held : List Held

-- a new indicator is held, whose bar 0 comes after so many bars, unless 64 are
abbrev pub held_anew : Indicator → IndicatorSpec → ℕ → List Held → Result Numbered SeriesFault
held_anew i spec first held =
    if nat_lt (length held) 64
    then Ok (record {
      number = length held;
      held = held ++ record { spec = spec; indicator = i; first = first } ∷ [];
    })
    else Err fault.TooMany

-- one that is held already has its number
abbrev pub numbered : Indicator → IndicatorSpec → ℕ → List Held → Option ℕ → Result Numbered SeriesFault
numbered i spec first held None = held_anew i spec first held
numbered i spec first held (Some n) = Ok (record { number = n; held = held })

abbrev pub asked : Option Indicator → IndicatorSpec → ℕ → List Held → Result Numbered SeriesFault
asked None spec first held = Err fault.BadSpec
asked (Some i) spec first held = numbered i spec first held (number_of spec held)

-- how many bars come before the oldest that is told: so many before bar 0 of an indicator that is made now
abbrev pub bars_before : List ℕ → IndicatorSpec → List Quote → ℕ
bars_before digits spec quotes = length (all_bars digits spec.symbol spec.period quotes) - most_told

-- the answer of a call that asks for an indicator; a refused call changes nothing
abbrev pub Numbers : Result Numbered SeriesFault → Kept → Result ℕ SeriesFault → Kept → Type 0
Numbers (Ok n) old (Ok m) new = (m ≡ n.number) × (new ≡ record old { held = n.held })
Numbers (Ok n) old (Err e) new = (e ≡ fault.OutOfMemory) × (new ≡ old)
Numbers (Err f) old (Ok m) new = ⊥
Numbers (Err f) old (Err e) new = (e ≡ f) × (new ≡ old)
