use Rattle.std.proofs.Common.{◌≡◌, ◌++◌, drop}
use Rattle.toml.specs.View.{items_view}
use Rattle.settings_file.specs.Unknown.{unknown_in_symbols}
use Rattle.settings_file.proofs.unknown.push_unknown_in_symbols.Given as goal

abbrev pub invariant-loop-i : goal.invariant-loop-i
invariant-loop-i l = l.names ++ unknown_in_symbols l.i (items_view (drop l.i l.values)) ≡ l.initial.names ++ unknown_in_symbols 0 (items_view l.values)
