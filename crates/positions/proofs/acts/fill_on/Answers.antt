use Rattle.std.proofs.Common.{rules, List, All, length, ◌+◌, ◌<◌, ◌^◌, fold, ap, sym, subst, ◌∙◌}
use Rattle.account.specs.declared.position.Position.{Position}
use Rattle.account.specs.Positions.{positions_after}
use Rattle.account.specs.Ranges.{IsHeld}
use Rattle.positions.specs.Acts.{change_events}
use Rattle.positions.proofs.Filled.{met_held_at, fill_types_at, held_act}
use Rattle.positions.proofs.Lengths.{act_length, of_ok}
use Rattle.positions.proofs.acts.fill_on.Goals as goal

pub act_of-requires-clause-held : goal.act_of-requires-clause-held
act_of-requires-clause-held c =
    met_held_at c.args.hedging c.args.specs.now c.args.fill.now c.args.positions.now.items c.deref-2.result.now (search rules) c.requires.open c.requires.fill.fresh

pub apply_deal-requires-clause-types : goal.apply_deal-requires-clause-types
apply_deal-requires-clause-types c =
    fill_types_at c.args.hedging c.args.specs.now c.args.fill.now c.args.positions.now.items c.make_room.new.positions.items c.deref-2.result.now c.in-Ok.act.opening c.make_room.ensures.items (search rules) c.requires.open c.requires.fill.some c.number_ranges.ensures.volume c.number_ranges.ensures.price c.requires.fill.fresh c.requires.volume c.in-Ok.ensures.opening

pub returns-clause-open : goal.returns-clause-open
returns-clause-open c = record {
  rising = c.apply_change.ensures.rising;
  held = held_act c.make_room.new.positions.items c.apply_change.new.positions.items c.in-Ok.act.opening c.in-Ok.act.stops
      (subst (λ (ps : List Position). All IsHeld ps) (sym c.make_room.ensures.items) c.requires.open.held)
      (fill_types_at c.args.hedging c.args.specs.now c.args.fill.now c.args.positions.now.items c.make_room.new.positions.items c.deref-2.result.now c.in-Ok.act.opening c.make_room.ensures.items (search rules) c.requires.open c.requires.fill.some c.number_ranges.ensures.volume c.number_ranges.ensures.price c.requires.fill.fresh c.requires.volume c.in-Ok.ensures.opening)
      (c.apply_change.ensures.items ∙ ap (λ (ps : List Position). fold positions_after ps (change_events c.in-Ok.act.stops)) c.apply_deal.ensures.items);
  few = act_length c.make_room.new.positions.items c.apply_change.new.positions.items c.in-Ok.act.opening c.in-Ok.act.stops
      (subst (λ (ps : List Position). length ps + 1 < 2 ^ 32) (sym c.make_room.ensures.items) (of_ok c.make_room.result (length c.args.positions.now.items + 1 < 2 ^ 32) (search rules) c.make_room.ensures.few))
      (c.apply_change.ensures.items ∙ ap (λ (ps : List Position). fold positions_after ps (change_events c.in-Ok.act.stops)) c.apply_deal.ensures.items);
}
