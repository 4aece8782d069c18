use Rattle.std.proofs.Common.{◌≡◌, length}
use Rattle.settings_file.specs.Keys.{all_of, is_latin_letter}
use Rattle.settings_file.proofs.keys.all_letters.Given as goal

abbrev pub invariant-loop-rest : goal.invariant-loop-rest
invariant-loop-rest l = all_of is_latin_letter l.fn.text ≡ all_of is_latin_letter l.rest

abbrev pub decreases-loop-rest : goal.decreases-loop-rest
decreases-loop-rest l = length l.rest
