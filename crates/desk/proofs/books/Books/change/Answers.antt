use Rattle.std.proofs.Common.{◌∙◌, refl, ap, rules}
use Rattle.account.specs.declared.event.Event.TheVariants as event
use Rattle.desk.specs.Books.{Kept}
use Rattle.desk.proofs.Stepping.{step_quiet, of_modified}
use Rattle.desk.proofs.books.Books.change.Goals as goal

pub invariant_of-self-2 : goal.invariant_of-self-2
invariant_of-self-2 g c = λ e.
    step_quiet (g.P.PositionRule.hedging c.self.inside.rule) (g.P.PositionRule.hedging c.self.inside.rule) (g.P.PositionRule.specs c.self.inside.rule) (g.P.PositionRule.specs c.self.inside.rule) (g.P.PositionRule.positions c.self.inside.rule) (g.P.PositionRule.positions c.self.inside.rule)
    c.self.inside.orders c.modify.new.self c.self.inside.last c.self.inside.quoted c.enter.new.self (event.Modified c.args.order) refl
    (c.self.invariant (ap (λ (k : Kept). k.broken) c.self.view_is ∙ c.requires.whole)) refl refl refl (of_modified c.self.inside.orders c.args.order c.modify.result c.modify.new.self (search rules) c.modify.ensures) c.in_ok-enter.ensures.ok
