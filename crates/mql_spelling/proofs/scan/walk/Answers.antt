use Rattle.std.proofs.Common.{sym, ◌∙◌}
use Rattle.mql_spelling.proofs.LongestPiece.{walk_on, walk_end, last_dead}
use Rattle.mql_spelling.specs.Onward.{after}
use Rattle.mql_spelling.proofs.scan.walk.Goals as goal

pub returns-then-is_dead : goal.returns-then-is_dead
returns-then-is_dead c = sym (last_dead c.loop-unit.count c.loop-unit.best (after c.loop-unit.state) c.loop-unit.rest.now c.if-is_dead.ensures) ∙ c.loop-unit.invariant.0

pub loop-unit-preserved : goal.loop-unit-preserved
loop-unit-preserved c = walk_on _ _ _ _ _ (after c.loop-unit.state) (after c.step-state.result) _ _ _ _ c.in-Some.ensures.cases.0 c.loop-unit.invariant c.lexeme_at.ensures c.better-best.ensures c.step-state.ensures

pub returns : goal.returns
returns c = walk_end _ _ _ _ (after c.loop-unit.state) _ c.loop-unit.rest.now c.in_default.ensures.cases c.loop-unit.invariant.0 c.lexeme_at-2.ensures c.better.ensures
