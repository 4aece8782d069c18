use Rattle.std.proofs.Common.{rules, sym, ap, ◌≡◌, ◌∙◌, ℕ, List, insert, Some, None}
use Rattle.account.specs.declared.position.Position.{Position}
use Rattle.account.specs.declared.deal.Deal.{Deal}
use Rattle.account.specs.Keyed.{item, put, lower, Rising}
use Rattle.account.specs.Positions.{position_ticket, opened}
use Rattle.account.proofs.Found.{new_one}
use Rattle.account.proofs.open_positions.add.Goals as goal

inserted : (d : Deal) (ps new : List Position) (i : ℕ) (p : Position) → Rising position_ticket ps → item position_ticket d.position ps ≡ None → i ≡ lower position_ticket d.position ps → p ≡ opened d → new ≡ insert ps i p → new ≡ put position_ticket d.position (Some (opened d)) ps
inserted d ps new i p r h e f g = g ∙ ap (λ (k : ℕ). insert ps k p) e ∙ ap (λ (q : Position). insert ps (lower position_ticket d.position ps) q) f ∙ sym (new_one position_ticket (opened d) ps r h)

pub returns : goal.returns
returns c = inserted c.args.deal c.args.positions.now.items c.insert.new.positions.items c.lower-i.result c.opened.result c.requires.rising c.requires.fresh (search rules) c.opened.ensures c.insert.ensures
