-- The number of digits.
use Rattle.std.proofs.Common.{◌≡◌, ℕ, zero, suc, ◌+◌, ◌*◌, ◌≤◌, List, [], ◌∷◌, sym, ap, ◌∙◌, arith}
use Rattle.mql_spelling.specs.Value.{value_from, digit_value}

-- more digits make no smaller number
pub value_grows : (base n : ℕ) (us : List ℕ) → 1 ≤ base → n ≤ value_from base n us
value_grows base n [] h = omega arith
value_grows zero n (u ∷ us) h = absurd (omega arith)
value_grows (suc b) n (u ∷ us) h = omega (arith, value_grows (suc b) (suc b * n + digit_value u) us h)

-- where the number is too large with the next digit, it is too large
pub too_large : (base n u limit whole : ℕ) (all us : List ℕ) → 1 ≤ base → all ≡ u ∷ us → value_from base n all ≡ whole → limit ≤ base * n + digit_value u → limit ≤ whole
too_large base n u limit whole all us h e i le =
    let q : value_from base (base * n + digit_value u) us ≡ whole = ap (λ (xs : List ℕ). value_from base n xs) (sym e) ∙ i in
    let g = value_grows base (base * n + digit_value u) us h in
    omega arith
