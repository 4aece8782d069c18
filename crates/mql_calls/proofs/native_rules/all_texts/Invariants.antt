use Rattle.std.proofs.Common.{◌≡◌, length}
use Rattle.mql_calls.specs.Nodes.{passes, told}
use Rattle.mql_calls.specs.NativeCalls.{all_texts}
use Rattle.mql_calls.proofs.native_rules.all_texts.Given as goal

abbrev pub invariant-loop-rest : goal.invariant-loop-rest
invariant-loop-rest l =
    passes all_texts (told l.rest) ≡ passes all_texts (told l.fn.parts)

abbrev pub decreases-loop-rest : goal.decreases-loop-rest
decreases-loop-rest l = length l.rest
