use Rattle.std.proofs.Common.{◌≡◌, ◌∷◌, List, Option, rules, subst, sym, ℤ}
use Rattle.std.specs.List.{All}
use Rattle.std.proofs.lemmas.List.Elements.{All-nil, All-cons}
use Rattle.account.specs.Doubles.{IsPair}
use Rattle.account.proofs.Amounts.{nothing_left}
use Rattle.account.proofs.prices.all_ranges.Goals as goal

pub loop-pair-init : goal.loop-pair-init
loop-pair-init c = λ h. h

pub loop-pair-preserved : goal.loop-pair-preserved
loop-pair-preserved c =
    let e : c.loop-pair.rest.now ≡ c.in-Some.pair.now ∷ c.in-Some.others.now = search rules in
    λ h. c.loop-pair.invariant (subst (λ (ps : List (Option (ℤ × ℤ))). All IsPair ps) (sym e) (All-cons IsPair c.in-Some.pair.now c.in-Some.others.now c.range.ensures h))

pub returns : goal.returns
returns c = c.loop-pair.invariant (subst (λ (ps : List (Option (ℤ × ℤ))). All IsPair ps) (sym (nothing_left c.loop-pair.rest.now (search rules))) (All-nil IsPair))
