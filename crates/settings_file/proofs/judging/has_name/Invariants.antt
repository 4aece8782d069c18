use Rattle.std.proofs.Common.{◌≡◌, length}
use Rattle.settings_file.specs.Symbols.{has_name}
use Rattle.settings_file.proofs.judging.has_name.Given as goal

abbrev pub invariant-loop-symbol : goal.invariant-loop-symbol
invariant-loop-symbol l = has_name l.name l.fn.symbols ≡ has_name l.name l.rest

abbrev pub decreases-loop-symbol : goal.decreases-loop-symbol
decreases-loop-symbol l = length l.rest
