-- Samples of the definitions, worked out by hand.
use Rattle.std.proofs.Common.{refl, ◌≡◌, true, false, Bool, ℕ, ℤ, pos, neg_ℤ, [], ◌∷◌}
use Rattle.fx8.specs.Rounding.{rounded}
use Rattle.account.specs.Money.{profit, margin, weighted_price}
use Rattle.account.specs.declared.position.Position.{Position}
use Rattle.account.specs.declared.deal.Deal.{Deal}
use Rattle.account.specs.declared.deal.DealKind.TheVariants as kind
use Rattle.account.specs.declared.deal.DealEntry.TheVariants as entry
use Rattle.account.specs.declared.deal.DealReason.TheVariants as reason
use Rattle.account.specs.declared.event.Event.TheVariants as event
use Rattle.account.specs.Positions.{open_positions}
use Rattle.account.specs.StopOut.{is_due}

-- 0.1 lots at 1.00001 and 0.2 at 1.00002 have the price 1.00001667
average : weighted_price (pos 10000000) (pos 100001000) (pos 20000000) (pos 100002000) ≡ pos 100001667
unfolding weighted_price rounded
average = refl

-- 3 lots bought at 1.1020 and closed at 1.1010 lose 300.00
three_lots : profit true (pos 110200000) (pos 110100000) 100000 (pos 300000000) ≡ neg_ℤ (pos 30000)
unfolding profit rounded
three_lots = refl

-- 0.5 lots at 1.2 bind 600.00 at a leverage of 100
half_lot : margin 100 (pos 120000000) 100000 (pos 50000000) ≡ pos 60000
unfolding margin rounded
half_lot = refl

-- with a balance of 1000.00 and 0.5 lots bought at 1.2, 1.186 gives an equity of 300.00, which is half of
-- the margin, and nothing is due; 1.18599 gives 299.50, and a stop-out is due
at_half : is_due 50 (pos 30000) (pos 60000) ≡ false
unfolding is_due
at_half = refl

below_half : is_due 50 (pos 29950) (pos 60000) ≡ true
unfolding is_due
below_half = refl

loss_of_half_lot : profit true (pos 120000000) (pos 118599000) 100000 (pos 50000000) ≡ neg_ℤ (pos 70050)
unfolding profit rounded
loss_of_half_lot = refl

-- a deal of 100,000 units a lot on the first symbol, all of the position 1
abbrev trade : ℕ → Deal
trade n = record {
  ticket = n;
  order = n;
  position = 1;
  time_ms = pos 0;
  symbol = 0;
  kind = kind.Buy;
  entry = entry.In;
  volume = pos 100000000;
  price = pos 110000000;
  profit = pos 0;
  swap = pos 0;
  commission = pos 0;
  magic = 0;
  reason = reason.Expert;
  comment = [];
}

abbrev first : Deal
first = trade 2

abbrev second : Deal
second = record (trade 3) { volume = pos 200000000; price = pos 110300000 }

abbrev third : Deal
third = record (trade 4) {
  kind = kind.Sell;
  entry = entry.InOut;
  volume = pos 500000000;
  price = pos 110100000;
  profit = neg_ℤ (pos 30000);
}

-- the position of these deals
abbrev at_volume : ℤ → ℤ → Bool → Position
at_volume volume price buy = record {
  ticket = 1;
  symbol = 0;
  buy = buy;
  volume = volume;
  price = price;
  sl = pos 0;
  tp = pos 0;
  swap = pos 0;
  time_ms = pos 0;
  magic = 0;
  comment = [];
}

-- 1.0 bought at 1.1000 and 2.0 at 1.1030 are 3.0 at 1.1020
after_two : open_positions (event.Added first ∷ event.Added second ∷ []) ≡ at_volume (pos 300000000) (pos 110200000) true ∷ []
unfolding weighted_price rounded
after_two = refl

-- 5.0 sold at 1.1010 reverse them to 2.0 sold at 1.1010
after_three : open_positions (event.Added first ∷ event.Added second ∷ event.Added third ∷ []) ≡ at_volume (pos 200000000) (pos 110100000) false ∷ []
unfolding weighted_price rounded
after_three = refl
