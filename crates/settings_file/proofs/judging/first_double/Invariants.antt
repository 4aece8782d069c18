use Rattle.std.proofs.Common.{◌≡◌, take, drop, []}
use Rattle.settings_file.specs.Symbols.{double_from}
use Rattle.settings_file.proofs.judging.first_double.Given as goal

abbrev pub invariant-loop-i : goal.invariant-loop-i
invariant-loop-i l = double_from l.i (take l.i l.symbols) (drop l.i l.symbols) ≡ double_from 0 [] l.symbols
