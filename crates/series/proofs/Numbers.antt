-- A new indicator.
use Rattle.std.proofs.Common.{◌≡◌, ℕ, ◌<◌, List, [], ◌∷◌, ◌++◌, length, ap, sym, ◌∙◌, subst, Bool, true, arith}
use Rattle.std.specs.Prelude.{nat_lt, Option, Some, None, Ok, Err, if◌then◌else◌}
use Rattle.std.proofs.lemmas.Grind.{common_steps}
use Rattle.indicators.specs.declared.kinds.Indicator.{Indicator}
use Rattle.indicators.specs.declared.indicator_spec.IndicatorSpec.{IndicatorSpec}
use Rattle.series.specs.declared.fault.SeriesFault.TheVariants as fault
use Rattle.series.specs.declared.held.Held.{Held}
use Rattle.series.specs.Stored.{Histories}
use Rattle.series.specs.Stands.{Kept}
use Rattle.series.specs.Asked.{Numbered, Numbers, asked, numbered, number_of}

abbrev kept_of : List Histories → List Held → Kept
kept_of symbols held = record { symbols = symbols; held = held }

abbrev pub held_of : IndicatorSpec → Indicator → ℕ → Held
held_of spec i first = record { spec = spec; indicator = i; first = first }

abbrev numbered_of : ℕ → List Held → Numbered
numbered_of n held = record { number = n; held = held }

is_below : (n : ℕ) → n < 64 → nat_lt n 64 ≡ true
is_below n few = grind (arith, common_steps)

anew : (i : Indicator) (spec : IndicatorSpec) (n before first : ℕ) (symbols : List Histories) (held new : List Held)
    → n ≡ length held → n < 64 → first ≡ before → new ≡ held ++ held_of spec i first ∷ []
    → Numbers (numbered i spec before held None) (kept_of symbols held) (Ok n) (kept_of symbols new)
anew i spec n before first symbols held new is few same are =
    subst (λ (b : Bool). Numbers (if b then Ok (numbered_of (length held) (held ++ held_of spec i before ∷ [])) else Err fault.TooMany)
    (kept_of symbols held) (Ok n) (kept_of symbols new))
    (sym (is_below (length held) (subst (λ (k : ℕ). k < 64) is few)))
    (is, ap (kept_of symbols) (are ∙ ap (λ (k : ℕ). held ++ held_of spec i k ∷ []) same))

-- one more is held
pub held_anew : (judgement : Option Indicator) (i : Indicator) (spec : IndicatorSpec) (n before first : ℕ)
    (symbols : List Histories) (held new : List Held) (old : Kept) → kept_of symbols held ≡ old → Some i ≡ judgement
    → None ≡ number_of spec old.held → n ≡ length held → n < 64 → first ≡ before → new ≡ held ++ held_of spec i first ∷ []
    → Numbers (asked judgement spec before old.held) old (Ok n) (kept_of symbols new)
held_anew judgement i spec n before first symbols held new old view judged none is few same are =
    subst (λ (o : Option Indicator). Numbers (asked o spec before old.held) old (Ok n) (kept_of symbols new)) judged
    (subst (λ (o : Option ℕ). Numbers (numbered i spec before old.held o) old (Ok n) (kept_of symbols new)) none
    (subst (λ (k : Kept). Numbers (numbered i spec before k.held None) k (Ok n) (kept_of symbols new)) view
    (anew i spec n before first symbols held new is few same are)))
