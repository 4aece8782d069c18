use Rattle.std.proofs.Common.{◌≡◌, ◌+◌, ◌-◌, ◌*◌, ◌^◌, ◌≤◌, ℕ, List, length, take, rules, sym, subst, ap, ◌∙◌}
use Rattle.fx8.specs.Rounding.{signed}
use Rattle.fx8.specs.Decimals.{number_after, number}
use Rattle.fx8.proofs.Places.{half, size_is, large_front, large_whole}
use Rattle.fx8.proofs.decimal.size.Goals as goal

joined : (r n b h : ℕ) (whole decimals front : List ℕ) → r ≡ n * 10 ^ (8 - length front) + h → n ≡ number_after b front → b ≡ number whole
    → front ≡ take 8 decimals → h ≡ half decimals
    → r ≡ number_after (number whole) (take 8 decimals) * 10 ^ (8 - length (take 8 decimals)) + half decimals
joined r n b h whole decimals front er en eb ef eh = cc

front_of : (b : ℕ) (whole decimals front : List ℕ) → 2 ^ 64 ≤ number_after b front → b ≡ number whole → front ≡ take 8 decimals
    → 2 ^ 64 ≤ number_after (number whole) (take 8 decimals)
front_of b whole decimals front h eb ef = subst (λ (xs : List ℕ). 2 ^ 64 ≤ number_after (number whole) xs) ef (subst (λ (k : ℕ). 2 ^ 64 ≤ number_after k front) eb h)

pub returns-in_default-clause-value : goal.returns-in_default-clause-value
returns-in_default-clause-value c below = large_whole below c.args.whole.now c.args.decimals.now c.requires.decimals (search rules)

pub returns-in_default-number_after-clause-value : goal.returns-in_default-number_after-clause-value
returns-in_default-number_after-clause-value c below =
    large_front below c.args.whole.now c.args.decimals.now c.requires.decimals
    (front_of c.in-Some.begun c.args.whole.now c.args.decimals.now c.first_decimals-front.result.now (search rules) (search rules) c.first_decimals-front.ensures.value)

pub returns-clause-value : goal.returns-clause-value
returns-clause-value c below =
    size_is below c.args.whole.now c.args.decimals.now c.requires.decimals
    ∙ ap (signed below) (sym (joined c.scaled.result c.in-Some-number_after.number c.in-Some.begun c.half.result c.args.whole.now c.args.decimals.now c.first_decimals-front.result.now
    c.scaled.ensures.value (search rules) (search rules) c.first_decimals-front.ensures.value c.half.ensures.value))
