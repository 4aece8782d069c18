use Rattle.std.specs.Prelude.{◌≡◌, take}
use Rattle.native_conversions.proofs.pieces.widened.Given as goal

abbrev pub invariant-loop-byte : goal.invariant-loop-byte
invariant-loop-byte l = l.text ≡ take l.byte-index l.bytes
