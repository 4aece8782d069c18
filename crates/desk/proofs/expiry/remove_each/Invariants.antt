use Rattle.std.proofs.Common.{◌≡◌, ◌++◌, false, map, length}
use Rattle.account.specs.declared.event.Event.TheVariants as event
use Rattle.account.specs.declared.event.RemovalCause.TheVariants as cause
use Rattle.desk.proofs.Ended.{IsLike}
use Rattle.desk.proofs.expiry.remove_each.Given as goal

-- what was removed and what is left are all the tickets
abbrev pub invariant-loop-ticket : goal.invariant-loop-ticket
invariant-loop-ticket g l = record {
  whole : l.books.broken ≡ false;
  like : IsLike l.books l.fn.books;
  events : l.books.quoted.events ++ map (λ t. event.Removed t cause.Expired) l.rest ≡ l.fn.books.quoted.events ++ map (λ t. event.Removed t cause.Expired) l.fn.tickets;
}

abbrev pub decreases-loop-ticket : goal.decreases-loop-ticket
decreases-loop-ticket g l = length l.rest
