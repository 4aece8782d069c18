use Rattle.tester_program.proofs.compiling.compile.Goals as goal

pub judge_program-requires : goal.judge_program-requires
judge_program-requires c = rw c.in-Ok-Tokens.field-0-is at c.in-Ok-Tokens.ensures.few
