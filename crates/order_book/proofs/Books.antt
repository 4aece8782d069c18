-- The book after each call.
use Rattle.std.proofs.Common.{◌≡◌, ℕ, ◌<◌, ◌≤◌, ◌+◌, true, false, ltb, List, length, set, slice_get, insert, remove, Some, None, refl, ap, sym, subst, ◌∙◌, arith, rules}
use Rattle.std.proofs.lemmas.Option.{slice_get_within}
use Rattle.std.proofs.lemmas.List.{length-set}
use Rattle.std.proofs.lemmas.List.Edits.{length-remove, length-insert}
use Rattle.account.specs.declared.order.Order.{Order}
use Rattle.account.specs.Keyed.{item, put, Rising, lower, found}
use Rattle.account.specs.Orders.{order_ticket, triggered, is_stop_limit}
use Rattle.account.proofs.Found.{Stands, stands, gone, replaced, new_one}
use Rattle.account.proofs.Places.{rising-put, rising-gone, numbers}
use Rattle.order_book.specs.declared.book_fault.BookFault.TheVariants as fault
use Rattle.order_book.specs.Book.{same_terms, modify_fault, IsBook}

-- the item of the place is that of the ticket
pub stands_one : {X : Type 0} (key : X → ℕ) (t : ℕ) (xs : List X) (i : ℕ) (x : X) → Rising key xs → Some i ≡ found key t xs → slice_get xs i ≡ Some x → (item key t xs ≡ Some x) × (key x ≡ t)
stands_one {X} key t xs i x r h g =
    let s : Stands key t xs i = stands key t xs i r h in
    let q : s.one ≡ x = grind (rules, s.there) in
    (s.is ∙ ap Some q, ap key (sym q) ∙ s.key_is)

-- a triggered order keeps its ticket
pub triggered_ticket : (o : Order) → order_ticket (triggered o) ≡ order_ticket o
triggered_ticket o =
    (elim (is_stop_limit o.kind) as (λ b. is_stop_limit o.kind ≡ b → order_ticket (triggered o) ≡ order_ticket o) [
      | true ↦ λ e. rw e refl
      | false ↦ λ e. rw e refl
    ]) refl

-- an order that would be as it was is not modified; any other is
pub change_refused : (os : List Order) (new o : Order) (i : ℕ) → Rising order_ticket os → Some i ≡ found order_ticket new.ticket os → slice_get os i ≡ Some o → same_terms o new ≡ true → modify_fault os new ≡ Some fault.NoChanges
change_refused os new o i r h g e = rw (stands_one order_ticket new.ticket os i o r h g).0 (rw e refl)

pub change_taken : (os : List Order) (new o : Order) (i : ℕ) → Rising order_ticket os → Some i ≡ found order_ticket new.ticket os → slice_get os i ≡ Some o → same_terms o new ≡ false → modify_fault os new ≡ None
change_taken os new o i r h g e = rw (stands_one order_ticket new.ticket os i o r h g).0 (rw e refl)

-- it is a book still
pub book_set : (os : List Order) (t i : ℕ) (z : Order) → IsBook os → Some i ≡ found order_ticket t os → order_ticket z ≡ t → IsBook (set os i z)
book_set os t i z b h k = record {
  rising = subst (λ (ys : List Order). Rising order_ticket ys) (replaced order_ticket t os i z b.rising h) (rising-put ltb numbers order_ticket t z os k b.rising);
  few = rw (length-set os i z) b.few;
}

pub book_less : (os : List Order) (t i : ℕ) → IsBook os → Some i ≡ found order_ticket t os → IsBook (remove os i)
book_less os t i b h = record {
  rising = subst (λ (ys : List Order). Rising order_ticket ys) (gone order_ticket t os i b.rising h) (rising-gone ltb numbers order_ticket t os b.rising);
  few =
      let s : Stands order_ticket t os i = stands order_ticket t os i b.rising h in
      let l : length (remove os i) + 1 ≡ length os = length-remove os i (slice_get_within os i s.one s.there) in
      let m : length os ≤ 1000 = b.few in omega arith;
}

pub book_more : (os : List Order) (z : Order) (i : ℕ) → IsBook os → item order_ticket (order_ticket z) os ≡ None → length os < 1000 → i ≡ lower order_ticket (order_ticket z) os → i ≤ length os → (put order_ticket (order_ticket z) (Some z) os ≡ insert os i z) × IsBook (insert os i z)
book_more os z i b h l e w =
    let p : put order_ticket (order_ticket z) (Some z) os ≡ insert os i z = rw e (new_one order_ticket z os b.rising h) in (
      p,
      record {
        rising = subst (λ (ys : List Order). Rising order_ticket ys) p (rising-put ltb numbers order_ticket (order_ticket z) z os refl b.rising);
        few = let g : length (insert os i z) ≡ length os + 1 = length-insert os i z w in omega arith;
      },
    )
