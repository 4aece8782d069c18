use Rattle.std.proofs.Common.{◌≡◌, ◌-◌, ◌≤◌, ◌++◌, length, take, drop, take_while}
use Rattle.mql_meaning.specs.Formats.{is_flag}
use Rattle.native_formats.proofs.units.flags_of.Given as goal

abbrev pub invariant-loop-end : goal.invariant-loop-end
invariant-loop-end l = record {
  within : l.end ≤ length l.text;
  are : take l.end l.text ++ take_while is_flag (drop l.end l.text) ≡ take_while is_flag l.text;
}

abbrev pub decreases-loop-end : goal.decreases-loop-end
decreases-loop-end l = length l.text - l.end
