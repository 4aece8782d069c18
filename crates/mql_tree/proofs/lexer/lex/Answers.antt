use Rattle.std.proofs.Common.{arith}
use Rattle.mql_tree.proofs.Reading.{on_blank, on_token, on_fault, on_nothing, on_end}
use Rattle.mql_tree.proofs.lexer.lex.Goals as goal

pub returns-in_default : goal.returns-in_default
returns-in_default c = on_nothing _ _ _ _ _ _ _ c.loop-rest.invariant c.loop-rest-test.true c.in_default.ensures.longest

pub loop-rest-preserved-in-Nothing : goal.loop-rest-preserved-in-Nothing
loop-rest-preserved-in-Nothing c = on_blank _ _ _ _ _ _ _ _ _ _ _ _ _ c.loop-rest.invariant (record { longest = c.in-Some.ensures.longest; piece_is = c.split_at.ensures.front; others_is = c.split_at.ensures.back; length_is = c.split_at.ensures.front_len; ends_is = c.line_ends.ensures.count; ends_within = c.line_ends.ensures.within }) c.in-Some.ensures.progress.1 c.in_ok-piece_meaning.ensures c.in-Nothing.is

pub loop-rest-preserved : goal.loop-rest-preserved
loop-rest-preserved c = on_token _ _ _ _ _ _ _ _ _ _ _ _ _ _ _ _ c.loop-rest.invariant (record { longest = c.in-Some.ensures.longest; piece_is = c.split_at.ensures.front; others_is = c.split_at.ensures.back; length_is = c.split_at.ensures.front_len; ends_is = c.line_ends-in-Token.ensures.count; ends_within = c.line_ends-in-Token.ensures.within }) c.in-Some.ensures.progress.1 c.in_ok-piece_meaning.ensures c.in-Token.is c.mode_behind-next.ensures c.in_ok-push-in-Token.ensures.ok

pub returns-in-Fault : goal.returns-in-Fault
returns-in-Fault c = on_fault _ _ _ _ _ _ _ _ _ _ _ _ _ c.loop-rest.invariant c.in-Some.ensures.longest c.split_at.ensures.front c.in_ok-piece_meaning.ensures c.in-Fault.is c.fault_at.ensures

pub returns : goal.returns
returns c = on_end _ _ _ _ _ c.loop-rest.invariant (omega arith)
