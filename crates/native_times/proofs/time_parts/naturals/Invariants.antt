use Rattle.std.specs.Prelude.{◌≡◌, drop}
use Rattle.mql_meaning.specs.Natives.{naturals}
use Rattle.native_times.proofs.Fields.{before}
use Rattle.native_times.proofs.time_parts.naturals.Given as goal

abbrev pub invariant-loop-value : goal.invariant-loop-value
invariant-loop-value l = before l.numbers (naturals (drop l.value-index l.values)) ≡ naturals l.values
