-- Amounts of money and the price of two parts together (MQL5 Reference, OrderCalcProfit, OrderCalcMargin;
-- MetaTrader 5 Help, Margin Calculation; the rounding is our own). Prices and volumes are units of 10^-8,
-- money is hundredths. Each result is rounded once, half away from zero.
use Rattle.std.specs.Prelude.{ℕ, ◌*◌, ◌^◌, Bool, true, false, ℤ, pos, neg_ℤ, ◌+ℤ◌, ◌-ℤ◌, ◌*ℤ◌}
use Rattle.fx8.specs.Rounding.{rounded}

-- as it is for a buy, negated for a sell
abbrev pub for_side : Bool → ℤ → ℤ
for_side true z = z
for_side false z = neg_ℤ z

-- what a bought, or sold, volume gains between two prices: their difference times the lots times what a lot
-- has
unfoldable pub profit : Bool → ℤ → ℤ → ℕ → ℤ → ℤ
profit buy opening closing contract volume =
    rounded (for_side buy ((closing -ℤ opening) *ℤ volume) *ℤ pos contract) (pos (10 ^ 14))

-- what is bound by a volume: its worth divided by the leverage
unfoldable pub margin : ℕ → ℤ → ℕ → ℤ → ℤ
margin leverage price contract volume =
    rounded (volume *ℤ price *ℤ pos contract) (pos (10 ^ 14 * leverage))

-- what a deal costs: the rate of a lot times the lots, taken away
unfoldable pub commission : ℤ → ℤ → ℤ
commission rate volume = neg_ℤ (rounded (rate *ℤ volume) (pos (10 ^ 8)))

-- the volume-weighted price of two parts
unfoldable pub weighted_price : ℤ → ℤ → ℤ → ℤ → ℤ
weighted_price volume price more at = rounded (volume *ℤ price +ℤ more *ℤ at) (volume +ℤ more)

-- the part of an amount that goes with a part of a volume
unfoldable pub portion : ℤ → ℤ → ℤ → ℤ
portion amount part whole = rounded (amount *ℤ part) whole
