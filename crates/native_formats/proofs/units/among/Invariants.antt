use Rattle.std.proofs.Common.{◌≡◌, length}
use Rattle.mql_meaning.specs.Formats.{among}
use Rattle.native_formats.proofs.units.among.Given as goal

abbrev pub invariant-loop-rest : goal.invariant-loop-rest
invariant-loop-rest l = among l.unit l.rest ≡ among l.unit l.units

abbrev pub decreases-loop-rest : goal.decreases-loop-rest
decreases-loop-rest l = length l.rest
