use Rattle.std.proofs.Common.{◌≡◌, false, length}
use Rattle.account.specs.declared.deal.DealReason.TheVariants as reason
use Rattle.desk.specs.Effect.{acts, closing_of}
use Rattle.desk.proofs.Ended.{IsLike, so_far}
use Rattle.desk.proofs.ending.close_each.Given as goal

abbrev pub invariant-loop-ticket : goal.invariant-loop-ticket
invariant-loop-ticket g l = record {
  whole : l.books.broken ≡ false;
  like : IsLike l.books l.fn.books;
  run : acts (closing_of l.fn.books.quoted.spec l.fn.books.quoted.prices l.time_ms reason.Client) (so_far l.books) l.rest
      ≡ acts (closing_of l.fn.books.quoted.spec l.fn.books.quoted.prices l.time_ms reason.Client) (so_far l.fn.books) l.fn.tickets;
}

abbrev pub decreases-loop-ticket : goal.decreases-loop-ticket
decreases-loop-ticket g l = length l.rest
