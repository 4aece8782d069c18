-- The ranges that the numbers of a symbol keep.
use Rattle.std.specs.Prelude.{◌≡◌, ℕ, ◌≤◌, ◌%◌, List, length, Option, Some, None, ⊤, All, ℤ, pos, neg_ℤ, ◌≤ℤ◌, ◌<ℤ◌, unsigned_abs}
use Rattle.market_types.specs.declared.symbol_spec.SymbolSpec.{SymbolSpec}

-- a printable ASCII character that is no blank
abbrev pub IsNameCharacter : ℕ → Type 0
IsNameCharacter b = (33 ≤ b) × (b ≤ 126)

-- the name of a symbol
pub record IsSymbolName (name : List ℕ) : Type 0 where
  pub some : 1 ≤ length name
  pub few : length name ≤ 32
  pub characters : All IsNameCharacter name

-- a volume above 0 and at most 1000 lots, in units of 10^-8
pub record IsVolume (units : ℤ) : Type 0 where
  pub above : pos 0 <ℤ units
  pub most : units ≤ℤ pos 100000000000

-- at most 1,000,000 a lot, either way, in hundredths
pub record IsSwap (cents : ℤ) : Type 0 where
  pub from : neg_ℤ (pos 100000000) ≤ℤ cents
  pub to : cents ≤ℤ pos 100000000

-- at most 1,000,000 points, where a number of points is given
abbrev pub ArePoints : Option ℕ → Type 0
ArePoints None = ⊤
ArePoints (Some points) = points ≤ 1000000

-- a symbol whose numbers are within their ranges, and whose least and greatest volume are multiples of the
-- step
pub record IsSpec (s : SymbolSpec) : Type 0 where
  pub name : IsSymbolName s.name
  pub digits : s.digits ≤ 8
  pub contract_from : 1 ≤ s.contract
  pub contract_to : s.contract ≤ 1000000
  pub volume_min : IsVolume s.volume_min
  pub volume_max : IsVolume s.volume_max
  pub volume_step : IsVolume s.volume_step
  pub volumes : s.volume_min ≤ℤ s.volume_max
  pub min_steps : unsigned_abs s.volume_min % unsigned_abs s.volume_step ≡ 0
  pub max_steps : unsigned_abs s.volume_max % unsigned_abs s.volume_step ≡ 0
  pub stops_level : s.stops_level ≤ 1000000
  pub spread : ArePoints s.spread
  pub commission_from : pos 0 ≤ℤ s.commission
  pub commission_to : s.commission ≤ℤ pos 100000000
  pub swap_long : IsSwap s.swap_long
  pub swap_short : IsSwap s.swap_short
  pub swap_day : s.swap_day ≤ 6
