-- The totals after one more deal.
use Rattle.std.proofs.Common.{◌≡◌, ◌∙◌, ℕ, ◌+◌, ◌++◌, append-nil, Bool, true, false, cond, List, [], ◌∷◌, length, filter, fold, ℤ, pos, ◌+ℤ◌, ◌-ℤ◌, ◌≤ℤ◌, FitsSigned, refl, ap, arith}
use Rattle.std.specs.Int.{w128}
use Rattle.std.proofs.lemmas.Int.{ints}
use Rattle.std.proofs.lemmas.List.Sums.{fold-append}
use Rattle.std.proofs.lemmas.List.Elements.{filter-append}
use Rattle.account.specs.declared.deal.Deal.{Deal}
use Rattle.account.specs.declared.totals.Totals.{Totals}
use Rattle.account.specs.Deals.{total, net}
use Rattle.account.specs.Statistics.{gain, loss, is_trade, is_profit_trade, is_loss_trade, greater, Path, begun, path_after, balance_path}
use Rattle.account.specs.Totals.{totals_of, totals_after, counted}
use Rattle.account.proofs.Conserved.{total-append}

total-more : {X : Type 0} (f : X → ℤ) (xs : List X) (x : X) → total f (xs ++ x ∷ []) ≡ total f xs +ℤ f x
total-more f xs x = total-append f xs (x ∷ []) ∙ ap (λ z. total f xs +ℤ z) (omega (arith, ints))

pub length-more : {X : Type 0} (xs : List X) (x : X) → length (xs ++ x ∷ []) ≡ length xs + 1
length-more [] x = refl
length-more (y ∷ xs) x = let e : length (xs ++ x ∷ []) ≡ length xs + 1 = length-more xs x in omega (arith, e)

count-more : {X : Type 0} (p : X → Bool) (xs : List X) (x : X) → length (filter p (xs ++ x ∷ [])) ≡ counted (p x) (length (filter p xs))
count-more {X} p xs x =
    ap (λ (ys : List X). length ys) (filter-append p xs (x ∷ []))
    ∙ (elim (p x) as (λ b. length (filter p xs ++ cond b (x ∷ []) []) ≡ counted b (length (filter p xs))) [
      | true ↦ length-more (filter p xs) x
      | false ↦ ap (λ (ys : List X). length ys) (append-nil (filter p xs))
    ])

path-more : (deposit : ℤ) (ds : List Deal) (d : Deal) → balance_path deposit (ds ++ d ∷ []) ≡ path_after (balance_path deposit ds) d
path-more deposit ds d = fold-append path_after (begun deposit) ds (d ∷ [])

make : Path → ℤ → ℤ → ℤ → ℤ → ℕ → ℕ → ℕ → ℕ → Totals
make path deposit profit gains losses n t p l = record {
  balance = path.now;
  highest = path.highest;
  stats = record { initial_deposit = deposit; profit = profit; gross_profit = gains; gross_loss = losses; deals = n; trades = t; profit_trades = p; loss_trades = l; balance_dd = path.fall; equity_dd = pos 0 };
}

-- the totals of one more deal are the totals after it
pub totals-more : (deposit : ℤ) (ds : List Deal) (d : Deal) → totals_of deposit (ds ++ d ∷ []) ≡ totals_after (totals_of deposit ds) d
unfolding make
totals-more deposit ds d =
    ap (λ (p : Path). make p deposit (total net (ds ++ d ∷ [])) (total gain (ds ++ d ∷ [])) (total loss (ds ++ d ∷ [])) (length (ds ++ d ∷ [])) (length (filter is_trade (ds ++ d ∷ []))) (length (filter is_profit_trade (ds ++ d ∷ []))) (length (filter is_loss_trade (ds ++ d ∷ [])))) (path-more deposit ds d)
    ∙ ap (λ z. make (path_after (balance_path deposit ds) d) deposit z (total gain (ds ++ d ∷ [])) (total loss (ds ++ d ∷ [])) (length (ds ++ d ∷ [])) (length (filter is_trade (ds ++ d ∷ []))) (length (filter is_profit_trade (ds ++ d ∷ []))) (length (filter is_loss_trade (ds ++ d ∷ [])))) (total-more net ds d)
    ∙ ap (λ z. make (path_after (balance_path deposit ds) d) deposit (total net ds +ℤ net d) z (total loss (ds ++ d ∷ [])) (length (ds ++ d ∷ [])) (length (filter is_trade (ds ++ d ∷ []))) (length (filter is_profit_trade (ds ++ d ∷ []))) (length (filter is_loss_trade (ds ++ d ∷ [])))) (total-more gain ds d)
    ∙ ap (λ z. make (path_after (balance_path deposit ds) d) deposit (total net ds +ℤ net d) (total gain ds +ℤ gain d) z (length (ds ++ d ∷ [])) (length (filter is_trade (ds ++ d ∷ []))) (length (filter is_profit_trade (ds ++ d ∷ []))) (length (filter is_loss_trade (ds ++ d ∷ [])))) (total-more loss ds d)
    ∙ ap (λ n. make (path_after (balance_path deposit ds) d) deposit (total net ds +ℤ net d) (total gain ds +ℤ gain d) (total loss ds +ℤ loss d) n (length (filter is_trade (ds ++ d ∷ []))) (length (filter is_profit_trade (ds ++ d ∷ []))) (length (filter is_loss_trade (ds ++ d ∷ [])))) (length-more ds d)
    ∙ ap (λ n. make (path_after (balance_path deposit ds) d) deposit (total net ds +ℤ net d) (total gain ds +ℤ gain d) (total loss ds +ℤ loss d) (length ds + 1) n (length (filter is_profit_trade (ds ++ d ∷ []))) (length (filter is_loss_trade (ds ++ d ∷ [])))) (count-more is_trade ds d)
    ∙ ap (λ n. make (path_after (balance_path deposit ds) d) deposit (total net ds +ℤ net d) (total gain ds +ℤ gain d) (total loss ds +ℤ loss d) (length ds + 1) (counted (is_trade d) (length (filter is_trade ds))) n (length (filter is_loss_trade (ds ++ d ∷ [])))) (count-more is_profit_trade ds d)
    ∙ ap (λ n. make (path_after (balance_path deposit ds) d) deposit (total net ds +ℤ net d) (total gain ds +ℤ gain d) (total loss ds +ℤ loss d) (length ds + 1) (counted (is_trade d) (length (filter is_trade ds))) (counted (is_profit_trade d) (length (filter is_profit_trade ds))) n) (count-more is_loss_trade ds d)

-- the path of the balance ends at the balance
path-now : (path : Path) (ds : List Deal) → (fold path_after path ds).now ≡ path.now +ℤ total net ds
path-now path [] = omega (arith, ints)
path-now path (d ∷ ds) = path-now (path_after path d) ds ∙ omega (arith, ints)

pub balance-now : (deposit : ℤ) (ds : List Deal) → (balance_path deposit ds).now ≡ deposit +ℤ total net ds
balance-now deposit ds = path-now (begun deposit) ds

gain-from : (d : Deal) → pos 0 ≤ℤ gain d
unfolding gain
gain-from d = grind (arith, ints)

loss-to : (d : Deal) → loss d ≤ℤ pos 0
unfolding loss
loss-to d = grind (arith, ints)

pub gains-from : (ds : List Deal) → pos 0 ≤ℤ total gain ds
gains-from [] = omega (arith, ints)
gains-from (d ∷ ds) = omega (arith, ints, gain-from d, gains-from ds)

pub losses-to : (ds : List Deal) → total loss ds ≤ℤ pos 0
losses-to [] = omega (arith, ints)
losses-to (d ∷ ds) = omega (arith, ints, loss-to d, losses-to ds)

net-parts : (d : Deal) → net d ≡ gain d +ℤ loss d
unfolding gain loss
net-parts d = grind (arith, ints)

-- a net whose gain and loss fit with those before fits itself
pub net-fits : (ds : List Deal) (d : Deal) → FitsSigned w128 (total gain ds +ℤ gain d) → FitsSigned w128 (total loss ds +ℤ loss d) → FitsSigned w128 (net d)
net-fits ds d g l = omega (arith, ints, g, l, gains-from ds, losses-to ds, gain-from d, loss-to d, net-parts d)

-- the fall of the moment fits where the greatest fall does
pub fall-fits : (fall highest amount : ℤ) → FitsSigned w128 (greater fall (greater highest amount -ℤ amount)) → FitsSigned w128 (greater highest amount -ℤ amount)
unfolding greater
fall-fits fall highest amount h = grind (arith, ints, h)
