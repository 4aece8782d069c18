use Rattle.std.proofs.Common.{◌≡◌, ◌∙◌, List, ap, sym, subst, true, rules}
use Rattle.std.specs.Prelude.{is_some}
use Rattle.account.specs.declared.position.Position.{Position}
use Rattle.account.specs.declared.event.Event.TheVariants as event
use Rattle.account.specs.Keyed.{item}
use Rattle.account.specs.Positions.{position_ticket, positions_after}
use Rattle.account.specs.Ranges.{KeepsTypes}
use Rattle.positions.specs.Acts.{IsOpen}
use Rattle.positions.specs.CloseBy.{closed_by}
use Rattle.positions.proofs.Closing.{found_closes, judged_at, leaves_both}
use Rattle.positions.proofs.by_opposite.close_both.Goals as goal

pub apply_to_open-requires-clause-open : goal.apply_to_open-requires-clause-open
apply_to_open-requires-clause-open c = (found_closes c.args.specs.now c.args.at.now c.args.positions.now.items c.deref.result.now c.args.one c.args.other c.in_ok-pair.pair c.requires.open c.deref.ensures.value c.in_ok-pair.ensures).first_open

pub apply_to_open-requires-clause-types : goal.apply_to_open-requires-clause-types
apply_to_open-requires-clause-types c = (found_closes c.args.specs.now c.args.at.now c.args.positions.now.items c.deref.result.now c.args.one c.args.other c.in_ok-pair.pair c.requires.open c.deref.ensures.value c.in_ok-pair.ensures).first_types

pub apply_to_open-requires-2-clause-open : goal.apply_to_open-requires-2-clause-open
apply_to_open-requires-2-clause-open c =
    subst (λ (ps : List Position). is_some (item position_ticket c.in_ok-pair.pair.second.position ps) ≡ true) (sym c.apply_to_open.ensures.items)
    (found_closes c.args.specs.now c.args.at.now c.args.positions.now.items c.deref.result.now c.args.one c.args.other c.in_ok-pair.pair c.requires.open c.deref.ensures.value c.in_ok-pair.ensures).second_open

pub apply_to_open-requires-2-clause-types : goal.apply_to_open-requires-2-clause-types
apply_to_open-requires-2-clause-types c =
    subst (λ (ps : List Position). KeepsTypes ps (event.Added c.in_ok-pair.pair.second)) (sym c.apply_to_open.ensures.items)
    (found_closes c.args.specs.now c.args.at.now c.args.positions.now.items c.deref.result.now c.args.one c.args.other c.in_ok-pair.pair c.requires.open c.deref.ensures.value c.in_ok-pair.ensures).second_types

pub returns-clause-closed : goal.returns-clause-closed
returns-clause-closed c =
    leaves_both (closed_by true c.args.specs.now c.args.positions.now.items c.args.one c.args.other c.args.at.now) tt c.in_ok-pair.pair c.args.positions.now.items c.apply_to_open-2.new.positions.items c.args.out.now c.push_pair.new.out
    (judged_at c.args.specs.now c.args.at.now c.args.positions.now.items c.deref.result.now c.args.one c.args.other c.in_ok-pair.pair c.deref.ensures.value c.in_ok-pair.ensures)
    (search rules)
    (c.apply_to_open-2.ensures.items ∙ ap (λ (ps : List Position). positions_after ps (event.Added c.in_ok-pair.pair.second)) c.apply_to_open.ensures.items)

pub returns-clause-open : goal.returns-clause-open
returns-clause-open c =
    subst (λ (ps : List Position). IsOpen ps) (sym (c.apply_to_open-2.ensures.items ∙ ap (λ (ps : List Position). positions_after ps (event.Added c.in_ok-pair.pair.second)) c.apply_to_open.ensures.items))
    (found_closes c.args.specs.now c.args.at.now c.args.positions.now.items c.deref.result.now c.args.one c.args.other c.in_ok-pair.pair c.requires.open c.deref.ensures.value c.in_ok-pair.ensures).left
