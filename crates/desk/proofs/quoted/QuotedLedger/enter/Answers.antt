use Rattle.std.proofs.Common.{sym, subst, rules}
use Rattle.desk.specs.State.{Quoted}
use Rattle.desk.specs.Sound.{MayEnter}
use Rattle.desk.proofs.Entered.{types_kept, within_more, sound_entered}
use Rattle.positions.proofs.Lengths.{of_ok}
use Rattle.desk.proofs.quoted.QuotedLedger.enter.Goals as goal

pub add-requires-clause-types : goal.add-requires-clause-types
add-requires-clause-types c =
    types_kept c.self.inside.ledger.spec c.self.inside.prices c.self.inside.times.items c.self.inside.ledger.events c.args.event c.self.invariant.1
    (subst (λ (q : Quoted). MayEnter q.spec q.prices q.times q.events c.args.event) (sym c.self.view_is) c.requires)

pub add-requires-clause-within : goal.add-requires-clause-within
add-requires-clause-within c =
    within_more c.self.inside.ledger.spec c.self.inside.prices c.self.inside.times.items c.self.inside.ledger.events c.args.event c.self.invariant.1 c.self.invariant.0
    (subst (λ (q : Quoted). MayEnter q.spec q.prices q.times q.events c.args.event) (sym c.self.view_is) c.requires)

pub invariant_of-self-2 : goal.invariant_of-self-2
invariant_of-self-2 c =
    sound_entered c.self.inside.ledger.spec c.add.new.self.spec c.self.inside.prices c.self.inside.times.items c.self.inside.ledger.events c.add.new.self.events c.args.event c.add.ensures.same_account
    (of_ok c.add.result _ (search rules) c.add.ensures.ok) c.self.invariant.1 c.self.invariant.0
    (subst (λ (q : Quoted). MayEnter q.spec q.prices q.times q.events c.args.event) (sym c.self.view_is) c.requires)
