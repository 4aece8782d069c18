use Rattle.std.proofs.Common.{◌≡◌, ◌-◌, length}
use Rattle.mql_meaning.specs.Formats.{before, format, formatted}
use Rattle.native_formats.proofs.formats.format.Given as goal

abbrev pub invariant-loop-i : goal.invariant-loop-i
invariant-loop-i l = before l.out (formatted (length l.text - l.i) l.rest l.left) ≡ format l.text l.values
