-- The ranges that settings keep.
use Rattle.std.specs.Prelude.{◌⊎◌, ℕ, ◌≤◌, List, length, All, pos, ◌≤ℤ◌}
use Rattle.tester_settings.specs.declared.settings.Settings.{Settings}
use Rattle.market_types.specs.Ranges.{IsSpec}

-- an ASCII letter
abbrev pub IsLetter : ℕ → Type 0
IsLetter b = ((65 ≤ b) × (b ≤ 90)) ⊎ ((97 ≤ b) × (b ≤ 122))

-- the name of a currency
pub record IsCurrency (name : List ℕ) : Type 0 where
  pub some : 1 ≤ length name
  pub few : length name ≤ 8
  pub letters : All IsLetter name

-- settings whose numbers are within their ranges
pub record AreSettings (s : Settings) : Type 0 where
  pub deposit_from : pos 1 ≤ℤ s.deposit
  pub deposit_to : s.deposit ≤ℤ pos 100000000000
  pub currency : IsCurrency s.currency
  pub leverage_from : 1 ≤ s.leverage
  pub leverage_to : s.leverage ≤ 10000
  pub stop_out : s.stop_out ≤ 100
  pub steps_from : 1 ≤ s.steps
  pub steps_to : s.steps ≤ 1000000000
  pub symbols : All IsSpec s.symbols
