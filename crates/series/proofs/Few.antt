-- The volumes of the bars of few quotes fit their types.
use Rattle.std.proofs.Common.{◌≡◌, ℕ, suc, ◌+◌, ◌*◌, ◌^◌, ◌<◌, ◌≤◌, List, [], ◌∷◌, length, Bool, true, false, cond, arith}
use Rattle.std.specs.Prelude.{◌==◌, All, sum_by, count_by}
use Rattle.std.specs.List.{AllByRecursion, filter}
use Rattle.std.proofs.lemmas.List.Sums.{sum_by_from, sum_by-le, length-filter, count_by-le-length}
use Rattle.std.proofs.lemmas.List.Elements.{All-cons, All-nil, All-map, All-from_recursion, recursion_from_All}
use Rattle.market_types.specs.declared.quote.Quote.{Quote}
use Rattle.market_types.specs.declared.period.Period.{Period}
use Rattle.series.specs.Bars.{bars, Group, group, bar_of, opens, groups, grouped, lots, traded, of_symbol}
use Rattle.series.specs.Pushed.{HasVolumes}
use Rattle.series.specs.Laws.{FewQuotesFit}

abbrev IsSmall : Quote → Type 0
IsSmall q = lots q ≤ 2 ^ 63

-- a group of at most so many quotes
record Small (n : ℕ) (g : Group) : Type 0 where
  few : length g.others < n
  first : IsSmall g.first
  others : All IsSmall g.others

more : (n : ℕ) (gs : List Group) → AllByRecursion (Small n) gs → AllByRecursion (Small (suc n)) gs
more n [] all = tt
more n (g ∷ gs) all = (record { few = omega (arith, all.0.few); first = all.0.first; others = all.0.others }, more n gs all.1)

either : (n : ℕ) (q : Quote) (g : Group) (gs : List Group) (b : Bool) → IsSmall q → AllByRecursion (Small n) (g ∷ gs)
    → AllByRecursion (Small (suc n)) (cond b (group q (g.first ∷ g.others) ∷ gs) (group q [] ∷ g ∷ gs))
either n q g gs true small all =
    (record { few = omega (arith, all.0.few); first = small; others = All-cons IsSmall g.first g.others all.0.first all.0.others }, more n gs all.1)
either n q g gs false small all = (record { few = omega arith; first = small; others = All-nil IsSmall }, more n (g ∷ gs) all)

grouped_small : (p : Period) (q : Quote) (n : ℕ) (gs : List Group) → IsSmall q → AllByRecursion (Small n) gs
    → AllByRecursion (Small (suc n)) (grouped p q gs)
grouped_small p q n [] small all = (record { few = omega arith; first = small; others = All-nil IsSmall }, tt)
grouped_small p q n (g ∷ gs) small all = either n q g gs (opens p q == opens p g.first) small all

groups_small : (p : Period) (qs : List Quote) → AllByRecursion IsSmall qs → AllByRecursion (Small (length qs)) (groups p qs)
groups_small p [] all = tt
groups_small p (q ∷ qs) all = grouped_small p q (length qs) (groups p qs) all.0 (groups_small p qs all.1)

bar_fits : (p : Period) (d n : ℕ) → n ≤ 10 ^ 8 → (g : Group) → Small n g → HasVolumes (bar_of p d g)
bar_fits p d n few g small =
    let sums : traded g ≡ lots g.first + sum_by lots g.others = sum_by_from lots (lots g.first) g.others in
    let most : sum_by lots g.others ≤ length g.others * 2 ^ 63 = sum_by-le lots (2 ^ 63) g.others small.others in
    record {
      ticks = omega (arith, small.few, few);
      volume = omega (arith, small.few, few, small.first, sums, most);
    }

chosen : (b : Bool) (q : Quote) (rest : List Quote) → IsSmall q → AllByRecursion IsSmall rest
    → AllByRecursion IsSmall (cond b (q ∷ rest) rest)
chosen true q rest small all = (small, all)
chosen false q rest small all = all

kept_small : (test : Quote → Bool) (qs : List Quote) → AllByRecursion IsSmall qs → AllByRecursion IsSmall (filter test qs)
kept_small test [] all = tt
kept_small test (q ∷ qs) all = chosen (test q) q (filter test qs) all.0 (kept_small test qs all.1)

bars_fit : (p : Period) (d : ℕ) (qs : List Quote) → length qs ≤ 10 ^ 8 → AllByRecursion IsSmall qs → All HasVolumes (bars p d qs)
unfolding bars
bars_fit p d qs few all =
    All-map HasVolumes (bar_of p d) (groups p qs)
    (All-from_recursion (λ (g : Group). HasVolumes (bar_of p d g)) (groups p qs) (each (groups p qs) (groups_small p qs all)))
  where
    each : (gs : List Group) → AllByRecursion (Small (length qs)) gs → AllByRecursion (λ (g : Group). HasVolumes (bar_of p d g)) gs
    each [] h = tt
    each (g ∷ gs) h = (bar_fits p d (length qs) few g h.0, each gs h.1)

pub few_fit : FewQuotesFit
few_fit kept quotes few small symbol none within period =
    let test = λ (q : Quote). q.symbol == symbol in
    let e : length (filter test quotes) ≡ count_by test quotes = length-filter test quotes in
    let least : count_by test quotes ≤ length quotes = count_by-le-length test quotes in
    bars_fit period _ (of_symbol symbol quotes) (omega (arith, e, least, few)) (kept_small test quotes (recursion_from_All IsSmall quotes small))
