use Rattle.std.proofs.Common.{refl, ◌∙◌, ◌++◌, ◌∷◌, [], List, ap, sym, subst}
use Rattle.account.specs.declared.position.Position.{Position}
use Rattle.account.specs.declared.event.Event.{Event}
use Rattle.account.specs.Keyed.{Rising}
use Rattle.account.specs.Positions.{position_ticket}
use Rattle.account.proofs.Kept.{rising_open, books_same, not_full}
use Rattle.account.proofs.ledger.add_other.Goals as goal

pub returns-then-is_err-clause-answers : goal.returns-then-is_err-clause-answers
returns-then-is_err-clause-answers c = not_full c.args.books.now.events.items c.args.event c.requires.other

pub apply_other-requires-clause-rising : goal.apply_other-requires-clause-rising
apply_other-requires-clause-rising c = subst (λ (ps : List Position). Rising position_ticket ps) (sym c.requires.books.held) (rising_open c.args.books.now.events.items)

pub returns-clause-answers : goal.returns-clause-answers
returns-clause-answers c = not_full c.args.books.now.events.items c.args.event c.requires.other

pub returns-clause-books : goal.returns-clause-books
returns-clause-books c =
    books_same c.args.spec.now c.args.books.now _ c.args.event c.requires.books c.requires.other
    (c.push_event.ensures ∙ ap (λ (es : List Event). es ++ c.args.event ∷ []) c.reserve.ensures.items)
    refl c.apply_other.ensures refl c.requires.types c.requires.within
