use Rattle.std.proofs.Common.{◌≡◌, drop}
use Rattle.settings_file.specs.Symbols.{odd_volumes_from}
use Rattle.settings_file.proofs.judging.first_odd.Given as goal

abbrev pub invariant-loop-i : goal.invariant-loop-i
invariant-loop-i l = odd_volumes_from l.i (drop l.i l.symbols) ≡ odd_volumes_from 0 l.symbols
