use Rattle.std.proofs.Common.{◌≡◌, ◌-◌, [], reverse}
use Rattle.mql_meaning.specs.Formats.{hex}
use Rattle.native_formats.proofs.fields.hex_digits.Given as goal

abbrev pub invariant-loop-i : goal.invariant-loop-i
invariant-loop-i l = hex (l.places - l.i) l.ten l.left (reverse l.digits) ≡ hex l.places l.ten l.n []
