use Rattle.std.proofs.Common.{◌≡◌, ◌∙◌, ◌++◌, ◌∷◌, [], List, Result, Ok, Err, OnOk, is_err, false, Bool, ap, sym, subst}
use Rattle.account.specs.declared.deal.Deal.{Deal}
use Rattle.account.specs.declared.position.Position.{Position}
use Rattle.account.specs.declared.event.Event.{Event}
use Rattle.account.specs.declared.event.Event.TheVariants as event
use Rattle.account.specs.Keyed.{Rising}
use Rattle.account.specs.Positions.{position_ticket, positions_after}
use Rattle.account.proofs.Kept.{fits, rising_open, books_more}
use Rattle.account.proofs.ledger.add_deal.Goals as goal

of_ok : {E X : Type 0} (r : Result X E) (b : Bool) (P : Type 0) → b ≡ is_err r → b ≡ false → OnOk r P → P
of_ok (Ok x) b P e f h = h
of_ok (Err x) b P e f h = cc

pub totals_after-books-requires : goal.totals_after-books-requires
totals_after-books-requires c = fits c.args.spec.now c.args.books.now c.args.deal c.requires.books (c.is_full.ensures.room c.if-is_full.false) c.requires.within

pub apply_deal-requires-clause-rising : goal.apply_deal-requires-clause-rising
apply_deal-requires-clause-rising c = subst (λ (ps : List Position). Rising position_ticket ps) (sym (c.reserve-2.ensures.items ∙ c.requires.books.held)) (rising_open c.args.books.now.events.items)

pub returns-clause-books : goal.returns-clause-books
returns-clause-books c =
    books_more c.args.spec.now c.args.books.now _ c.args.deal c.requires.books (c.is_full.ensures.room c.if-is_full.false)
    (c.push_event.ensures ∙ ap (λ (es : List Event). es ++ event.Added c.args.deal ∷ []) c.reserve.ensures.items)
    (of_ok c.push.result c.is_err-3.result _ c.is_err-3.ensures.value c.if-is_err-3.false c.push.ensures.ok ∙ ap (λ (d : Deal). c.args.books.now.deals ++ d ∷ []) c.in-Ok.ensures)
    (c.apply_deal.ensures.items ∙ ap (λ (ps : List Position). positions_after ps (event.Added c.in-Ok-copy_deal.opening)) c.reserve-2.ensures.items ∙ ap (λ (d : Deal). positions_after c.args.books.now.positions.items (event.Added d)) c.in-Ok-copy_deal.ensures)
    c.totals_after-books.ensures c.requires.types c.requires.within
