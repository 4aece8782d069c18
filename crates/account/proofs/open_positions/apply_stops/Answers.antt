use Rattle.std.proofs.Common.{rules, sym, subst, ◌∙◌, List}
use Rattle.account.specs.Keyed.{Rising}
use Rattle.account.specs.Positions.{position_ticket, with_stops}
use Rattle.account.specs.declared.position.Position.{Position}
use Rattle.account.specs.declared.event.Event.TheVariants as event
use Rattle.account.proofs.Found.{changed_at, changed_none, stands, Stands}
use Rattle.account.proofs.Steps.{rising_after}
use Rattle.account.proofs.open_positions.apply_stops.Goals as goal

pub returns-in-Some-clause-items : goal.returns-in-Some-clause-items
returns-in-Some-clause-items c =
    let s : Stands position_ticket c.args.ticket c.args.positions.now.items c.in-Some.i = stands position_ticket c.args.ticket c.args.positions.now.items c.in-Some.i c.requires.rising (search rules) in
    c.stop_at.ensures s.one s.there ∙ sym (changed_at position_ticket c.args.ticket (with_stops c.args.sl c.args.tp) c.args.positions.now.items c.in-Some.i s.one c.requires.rising (search rules) s.there)

pub returns-in-Some-clause-rising : goal.returns-in-Some-clause-rising
returns-in-Some-clause-rising c =
    let s : Stands position_ticket c.args.ticket c.args.positions.now.items c.in-Some.i = stands position_ticket c.args.ticket c.args.positions.now.items c.in-Some.i c.requires.rising (search rules) in
    subst (λ (ps : List Position). Rising position_ticket ps) (sym (c.stop_at.ensures s.one s.there ∙ sym (changed_at position_ticket c.args.ticket (with_stops c.args.sl c.args.tp) c.args.positions.now.items c.in-Some.i s.one c.requires.rising (search rules) s.there)))
    (rising_after c.args.positions.now.items (event.Stops c.args.ticket c.args.sl c.args.tp) c.requires.rising)

pub returns-in-None-clause-items : goal.returns-in-None-clause-items
returns-in-None-clause-items c = changed_none position_ticket c.args.ticket (with_stops c.args.sl c.args.tp) c.args.positions.now.items c.requires.rising (search rules)
