use Rattle.std.specs.Prelude.{take}
use Rattle.stack_emission.specs.Draft.{Emits, operands, all_let_go}
use Rattle.stack_emission.proofs.expressions.+expressions.Given as goal

abbrev pub invariant-operands-loop-e : goal.invariant-operands-loop-e
invariant-operands-loop-e l = Emits (operands (take l.e-index l.parts)) l.fn.draft l.draft

abbrev pub invariant-all_let_go-loop-e : goal.invariant-all_let_go-loop-e
invariant-all_let_go-loop-e l = Emits (all_let_go (take l.e-index l.parts)) l.fn.draft l.draft
