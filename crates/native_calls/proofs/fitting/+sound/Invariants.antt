use Rattle.std.specs.Prelude.{◌≡◌, drop}
use Rattle.mql_meaning.specs.Calls.{all_sound}
use Rattle.native_calls.proofs.fitting.+sound.Given as goal

abbrev pub invariant-all_sound-loop-value : goal.invariant-all_sound-loop-value
invariant-all_sound-loop-value l = all_sound l.values ≡ all_sound (drop l.value-index l.values)
