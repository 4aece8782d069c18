-- Settings of parts that are within their ranges.
use Rattle.std.proofs.Common.{◌≡◌, List, sym, subst}
use Rattle.std.specs.Prelude.{All}
use Rattle.market_types.specs.declared.symbol_spec.SymbolSpec.{SymbolSpec}
use Rattle.market_types.specs.Ranges.{IsSpec}
use Rattle.tester_settings.specs.Ranges.{AreSettings}
use Rattle.tester_settings.specs.declared.input.Assignment.{Assignment}
use Rattle.tester_settings.specs.declared.input.InputRange.{InputRange}
use Rattle.settings_file.specs.declared.settings.Run.{Run}
use Rattle.settings_file.specs.declared.settings.Funds.{Funds}
use Rattle.settings_file.specs.declared.settings.Bounds.{Bounds}
use Rattle.settings_file.specs.declared.settings.SettingsFile.{SettingsFile}
use Rattle.settings_file.specs.Ranges.{FundsAreInRange, BoundsAreInRange}
use Rattle.settings_file.specs.Settings.{of_parts}

pub settings_in_range : (file : SettingsFile) (run : Run) (funds : Funds) (bounds : Bounds) (inputs : List Assignment) (optimise : List InputRange) (symbols : List SymbolSpec)
    → file ≡ of_parts run funds bounds inputs optimise symbols → FundsAreInRange funds → BoundsAreInRange bounds → All IsSpec symbols → AreSettings file.settings
settings_in_range file run funds bounds inputs optimise symbols e f b s =
    subst (λ (x : SettingsFile). AreSettings x.settings) (sym e) (record {
      deposit_from = f.deposit_from;
      deposit_to = f.deposit_to;
      currency = f.currency;
      leverage_from = f.leverage_from;
      leverage_to = f.leverage_to;
      stop_out = f.stop_out;
      steps_from = b.steps_from;
      steps_to = b.steps_to;
      symbols = s;
    })
