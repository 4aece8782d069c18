-- Numbers as a price file writes them; prices and volumes in units of 10^-8.
use Rattle.std.specs.Prelude.{ℕ, ◌-◌, ◌^◌, ◌&&◌, ◌==◌, nat_le, nat_lt, if◌then◌else◌, List, length, Option, None}
use Rattle.decimals.specs.Texts.{given, provided, whole, unsigned}
use Rattle.market_types.specs.Ordered.{greatest_price}

-- a whole number of so many digits, up to a limit
unfoldable pub whole_of : ℕ → ℕ → List ℕ → Option ℕ
whole_of digits limit text = if length text == digits then whole limit text else None

-- a price: above 0 and at most the greatest
abbrev pub price : List ℕ → Option ℕ
price text = given (unsigned 8 10000000 text) (λ units. provided (nat_lt 0 units
    && nat_le units greatest_price) units)

-- a last price, which may be 0
abbrev pub last_price : List ℕ → Option ℕ
last_price text = given (unsigned 8 10000000 text) (λ units. provided (nat_le units greatest_price) units)

-- the volume of a tick: as much as 64 bits hold
abbrev pub tick_volume : List ℕ → Option ℕ
tick_volume text = given (unsigned 8 92233720368 text) (λ units. provided (nat_le units (2 ^ 63 - 1)) units)
