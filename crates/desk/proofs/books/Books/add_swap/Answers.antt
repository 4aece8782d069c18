use Rattle.std.proofs.Common.{◌∙◌, refl, ap}
use Rattle.account.specs.declared.event.Event.TheVariants as event
use Rattle.desk.specs.Books.{Kept}
use Rattle.desk.proofs.Stepping.{step_quiet}
use Rattle.desk.proofs.books.Books.add_swap.Goals as goal

pub invariant_of-self-2 : goal.invariant_of-self-2
invariant_of-self-2 g c = λ e.
    step_quiet (g.P.PositionRule.hedging c.self.inside.rule) (g.P.PositionRule.hedging c.add_swap-open.new.self) (g.P.PositionRule.specs c.self.inside.rule) (g.P.PositionRule.specs c.add_swap-open.new.self) (g.P.PositionRule.positions c.self.inside.rule) (g.P.PositionRule.positions c.add_swap-open.new.self)
    c.self.inside.orders c.self.inside.orders c.self.inside.last c.self.inside.quoted c.enter.new.self (event.Swap c.args.ticket c.args.amount) refl
    (c.self.invariant (ap (λ (k : Kept). k.broken) c.self.view_is ∙ c.requires.whole)) c.add_swap-open.ensures.same_kind c.add_swap-open.ensures.same_specs c.add_swap-open.ensures.positions refl c.in_ok-enter.ensures.ok
