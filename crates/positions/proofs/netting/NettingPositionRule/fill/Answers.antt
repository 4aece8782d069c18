use Rattle.std.proofs.Common.{false, ap}
use Rattle.positions.specs.Acts.{Held}
use Rattle.positions.specs.Fills.{filled}
use Rattle.positions.proofs.Sums.{leaves_gains_at}
use Rattle.positions.proofs.netting.NettingPositionRule.fill.Goals as goal

pub returns-clause-volumes : goal.returns-clause-volumes
returns-clause-volumes c =
    leaves_gains_at (filled false c.self.inside.specs c.self.inside.positions.items c.args.fill.now) c.fill_on.result
    c.self.inside.positions.items c.args.self.now.positions c.fill_on.new.positions.items c.args.out.now c.fill_on.new.out
    (ap (λ (rule : Held). rule.positions) c.self.view_is) c.fill_on.ensures.filled
