-- The ranges that what was read keeps.
use Rattle.std.specs.Prelude.{◌≤◌, pos, ◌≤ℤ◌}
use Rattle.market_types.specs.declared.symbol_spec.SymbolSpec.{SymbolSpec}
use Rattle.market_types.specs.Ranges.{IsSymbolName, IsVolume, IsSwap, ArePoints}
use Rattle.tester_settings.specs.Ranges.{IsCurrency}
use Rattle.settings_file.specs.declared.settings.Funds.{Funds}
use Rattle.settings_file.specs.declared.settings.Bounds.{Bounds}
use Rattle.settings_file.specs.declared.symbols.Head.{Head}
use Rattle.settings_file.specs.declared.symbols.Volumes.{Volumes}
use Rattle.settings_file.specs.declared.symbols.Costs.{Costs}

pub record HeadIsInRange (head : Head) : Type 0 where
  pub name : IsSymbolName head.name
  pub digits : head.digits ≤ 8
  pub contract_from : 1 ≤ head.contract
  pub contract_to : head.contract ≤ 1000000

pub record VolumesAreInRange (volumes : Volumes) : Type 0 where
  pub min : IsVolume volumes.min
  pub max : IsVolume volumes.max
  pub step : IsVolume volumes.step

pub record CostsAreInRange (costs : Costs) : Type 0 where
  pub stops_level : costs.stops_level ≤ 1000000
  pub spread : ArePoints costs.spread
  pub commission_from : pos 0 ≤ℤ costs.commission
  pub commission_to : costs.commission ≤ℤ pos 100000000
  pub swap_long : IsSwap costs.swap_long
  pub swap_short : IsSwap costs.swap_short
  pub swap_day : costs.swap_day ≤ 6

-- a symbol whose keys are within their ranges, one by one
pub record SymbolIsInRange (s : SymbolSpec) : Type 0 where
  pub name : IsSymbolName s.name
  pub digits : s.digits ≤ 8
  pub contract_from : 1 ≤ s.contract
  pub contract_to : s.contract ≤ 1000000
  pub volume_min : IsVolume s.volume_min
  pub volume_max : IsVolume s.volume_max
  pub volume_step : IsVolume s.volume_step
  pub stops_level : s.stops_level ≤ 1000000
  pub spread : ArePoints s.spread
  pub commission_from : pos 0 ≤ℤ s.commission
  pub commission_to : s.commission ≤ℤ pos 100000000
  pub swap_long : IsSwap s.swap_long
  pub swap_short : IsSwap s.swap_short
  pub swap_day : s.swap_day ≤ 6

pub record FundsAreInRange (funds : Funds) : Type 0 where
  pub deposit_from : pos 1 ≤ℤ funds.deposit
  pub deposit_to : funds.deposit ≤ℤ pos 100000000000
  pub currency : IsCurrency funds.currency
  pub leverage_from : 1 ≤ funds.leverage
  pub leverage_to : funds.leverage ≤ 10000
  pub stop_out : funds.stop_out ≤ 100

pub record BoundsAreInRange (bounds : Bounds) : Type 0 where
  pub steps_from : 1 ≤ bounds.steps
  pub steps_to : bounds.steps ≤ 1000000000
