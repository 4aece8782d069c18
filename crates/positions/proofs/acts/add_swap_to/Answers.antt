use Rattle.std.proofs.Common.{List, All, sym, subst}
use Rattle.account.specs.declared.position.Position.{Position}
use Rattle.account.specs.Ranges.{IsHeld}
use Rattle.positions.proofs.Filled.{held_swap}
use Rattle.positions.proofs.Lengths.{swap_few}
use Rattle.positions.proofs.acts.add_swap_to.Goals as goal

pub returns-clause-kept : goal.returns-clause-kept
returns-clause-kept c = record { rising = c.apply_swap.ensures.rising; held = subst (λ (ps : List Position). All IsHeld ps) (sym c.apply_swap.ensures.items) (held_swap c.args.positions.now.items c.args.ticket c.args.amount c.requires.open.held c.requires.types); few = swap_few c.args.positions.now.items c.apply_swap.new.positions.items c.args.ticket c.args.amount c.requires.open.few c.apply_swap.ensures.items }
