use Rattle.std.proofs.Common.{◌≡◌, length, find}
use Rattle.std.specs.Prelude.{◌==◌}
use Rattle.positions.proofs.acts.on_symbol.Given as goal

abbrev pub invariant-loop-position : goal.invariant-loop-position
invariant-loop-position l = find (λ p. p.symbol == l.symbol) l.rest ≡ find (λ p. p.symbol == l.symbol) l.fn.positions

abbrev pub decreases-loop-position : goal.decreases-loop-position
decreases-loop-position l = length l.rest
