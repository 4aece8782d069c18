use Rattle.std.proofs.Common.{◌≡◌, ◌∙◌, List, ℤ, to_z, of_z, w64, map, ap, rules}
use Rattle.std.proofs.lemmas.Int.{to_z-of_z}
use Rattle.account.specs.Journal.{Journal}
use Rattle.account.specs.Positions.{position_ticket, open_positions}
use Rattle.account.specs.declared.position.Position.{Position}
use Rattle.positions.proofs.Lengths.{of_ok}
use Rattle.desk.proofs.Ended.{ended}
use Rattle.desk.proofs.ending.end.Goals as goal

pub returns : goal.returns
returns g c =
    let time : ℤ = to_z w64 (of_z w64 c.last_time-time_ms.result) in
    let t : time ≡ c.last_time-time_ms.result = to_z-of_z w64 c.last_time-time_ms.result (record { sfits = c.last_time-time_ms.type_inv }) in
    ended c.args.books.now c.remove_orders.new.books c.close_each.new.books time c.as_slice.result.now c.close_each.result (t ∙ c.last_time-time_ms.ensures)
    (c.as_slice.ensures.value ∙ c.in-Ok.ensures ∙ ap (λ (ps : List Position). map position_ticket ps) c.positions.ensures.value ∙ ap (λ (j : Journal). map position_ticket (open_positions j.events)) c.ledger.ensures)
    (of_ok c.remove_orders.result _ (search rules) c.remove_orders.ensures.ok) c.close_each.ensures
