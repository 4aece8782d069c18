use Rattle.std.proofs.Common.{◌≡◌, ℕ, List, ◌++◌, length}
use Rattle.std.specs.Option.{option_map}
use Rattle.price_rows.specs.Files.{units}
use Rattle.price_rows.proofs.text.units.Given as goal

abbrev pub invariant-loop-rest : goal.invariant-loop-rest
invariant-loop-rest l = units l.fn.bytes ≡ option_map (λ (more : List ℕ). l.text.items ++ more) (units l.rest)

abbrev pub decreases-loop-rest : goal.decreases-loop-rest
decreases-loop-rest l = length l.rest
