use Rattle.std.proofs.Common.{List, All, sym, subst}
use Rattle.account.specs.declared.position.Position.{Position}
use Rattle.account.specs.Ranges.{IsHeld}
use Rattle.positions.proofs.Filled.{held_stops}
use Rattle.positions.proofs.Lengths.{stops_few}
use Rattle.positions.proofs.acts.set_stops_of.Goals as goal

pub returns-clause-kept : goal.returns-clause-kept
returns-clause-kept c = record { rising = c.apply_stops.ensures.rising; held = subst (λ (ps : List Position). All IsHeld ps) (sym c.apply_stops.ensures.items) (held_stops c.args.positions.now.items c.args.ticket c.args.sl c.args.tp c.requires.held); few = stops_few c.args.positions.now.items c.apply_stops.new.positions.items c.args.ticket c.args.sl c.args.tp c.requires.few c.apply_stops.ensures.items }
