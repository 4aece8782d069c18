use Rattle.std.proofs.Common.{rules, sym, ◌∙◌}
use Rattle.account.specs.Positions.{position_ticket}
use Rattle.account.proofs.Found.{stands, Stands}
use Rattle.account.proofs.open_positions.look_up.Goals as goal

pub returns-in-Some : goal.returns-in-Some
returns-in-Some c = let s : Stands position_ticket c.args.ticket c.args.positions.now c.in-Some.i = stands position_ticket c.args.ticket c.args.positions.now c.in-Some.i c.requires (search rules) in sym (c.nth.ensures) ∙ s.there ∙ sym s.is
