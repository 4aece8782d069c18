use Rattle.std.proofs.Common.{◌≡◌, ◌+◌, length}
use Rattle.std.specs.List.{position_or_len}
use Rattle.std.specs.Prelude.{◌==◌}
use Rattle.std.specs.Cmp.Lexicographic.{pointwise}
use Rattle.judgement.proofs.judge.place_of.Given as goal

abbrev pub invariant-loop-spec : goal.invariant-loop-spec
invariant-loop-spec l =
    (l.place + position_or_len (λ s. pointwise (λ a b. a == b) s.name l.name) l.rest ≡ position_or_len (λ s. pointwise (λ a b. a == b) s.name l.name) l.fn.specs)
    × (l.place + length l.rest ≡ length l.fn.specs)

abbrev pub decreases-loop-spec : goal.decreases-loop-spec
decreases-loop-spec l = length l.rest
