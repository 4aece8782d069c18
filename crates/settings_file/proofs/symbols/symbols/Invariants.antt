use Rattle.std.proofs.Common.{◌≡◌, drop}
use Rattle.std.specs.Prelude.{All}
use Rattle.toml.specs.View.{items_view}
use Rattle.settings_file.specs.Symbols.{symbols_from}
use Rattle.settings_file.specs.Ranges.{SymbolIsInRange}
use Rattle.settings_file.proofs.Entered.{after}
use Rattle.settings_file.proofs.symbols.symbols.Given as goal

abbrev pub invariant-loop-i : goal.invariant-loop-i
invariant-loop-i l = record {
  gathered : after l.symbols (symbols_from l.i (items_view (drop l.i l.values))) ≡ symbols_from 0 (items_view l.values);
  range : All SymbolIsInRange l.symbols;
}
