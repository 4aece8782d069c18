use Rattle.std.proofs.Common.{true, ap}
use Rattle.positions.specs.Acts.{Held}
use Rattle.positions.specs.CloseBy.{closed_by}
use Rattle.positions.proofs.Sums.{leaves_gains_at}
use Rattle.positions.proofs.hedging.HedgingPositionRule.close_by.Goals as goal

pub returns-clause-volumes : goal.returns-clause-volumes
returns-clause-volumes c =
    leaves_gains_at (closed_by true c.self.inside.specs c.self.inside.positions.items c.args.one c.args.other c.args.at.now) c.close_both.result
    c.self.inside.positions.items c.args.self.now.positions c.close_both.new.positions.items c.args.out.now c.close_both.new.out
    (ap (λ (rule : Held). rule.positions) c.self.view_is) c.close_both.ensures.closed
